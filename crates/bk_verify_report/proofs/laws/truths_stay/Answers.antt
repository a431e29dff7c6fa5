use Rattle.bk_verify_report.proofs.Firsts.{truths_stay as the_law}
use Rattle.bk_verify_report.proofs.laws.truths_stay.Goals as goal

pub returns : goal.returns
returns c = the_law
