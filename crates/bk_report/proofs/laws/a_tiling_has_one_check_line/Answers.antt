use Rattle.bk_report.proofs.Verdicts.{one_check_line}
use Rattle.bk_report.proofs.laws.a_tiling_has_one_check_line.Goals as goal

pub returns : goal.returns
returns c = one_check_line
