use Rattle.std.proofs.Common.{refl}
use Rattle.bk_report.proofs.list_reports.write_missing.Goals as goal

pub returns : goal.returns
returns c =
    rw (c.push.ensures.items, c.push_entry.ensures.text, c.push_bytes.ensures, c.clear.ensures)
    refl
