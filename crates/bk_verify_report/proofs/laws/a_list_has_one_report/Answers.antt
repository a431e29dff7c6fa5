use Rattle.bk_verify_report.proofs.OneReport.{a_list_has_one_report}
use Rattle.bk_verify_report.proofs.laws.a_list_has_one_report.Goals as goal

pub returns : goal.returns
returns c = a_list_has_one_report
