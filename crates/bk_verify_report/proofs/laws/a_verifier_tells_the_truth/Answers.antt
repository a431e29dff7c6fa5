use Rattle.bk_verify_report.proofs.Firsts.{a_verifier_tells_the_truth as the_law}
use Rattle.bk_verify_report.proofs.laws.a_verifier_tells_the_truth.Goals as goal

pub returns : goal.returns
returns c = the_law
