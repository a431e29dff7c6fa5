use Rattle.bk_verify_report.specs.VerifyRun.{report_of}
use Rattle.bk_top.proofs.Statuses.{reads_to_end}
use Rattle.bk_top.proofs.reading_to_end.verify_list.Goals as goal

pub returns : goal.returns
returns g c =
    reads_to_end (report_of c.args.order) _ _ c.verify.result c.status.result c.status.ensures c.verify.ensures.verified c.verify.ensures.faults
