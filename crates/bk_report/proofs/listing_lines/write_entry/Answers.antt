use Rattle.std.proofs.Common.{refl}
use Rattle.bk_report.proofs.listing_lines.write_entry.Goals as goal

pub returns : goal.returns
returns c = rw (c.push.ensures.items, c.push_entry.ensures.text, c.clear.ensures) refl
