use Rattle.bk_verify_report.proofs.Firsts.{missing_ones_are_not_kept as the_law}
use Rattle.bk_verify_report.proofs.laws.missing_ones_are_not_kept.Goals as goal

pub returns : goal.returns
returns c = the_law
