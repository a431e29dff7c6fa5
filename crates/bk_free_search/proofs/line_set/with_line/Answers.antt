use Rattle.bk_laws.proofs.Bits.{bit_at-added, bit_at-added_kept, bit_at-added_only}
use Rattle.bk_free_search.proofs.line_set.with_line.Goals as goal

pub returns-clause-only : goal.returns-clause-only
returns-clause-only c = bit_at-added_only c.args.lines.bits c.args.line c.requires

pub returns-clause-kept : goal.returns-clause-kept
returns-clause-kept c = bit_at-added_kept c.args.lines.bits c.args.line c.requires

pub returns-clause-has : goal.returns-clause-has
returns-clause-has c = bit_at-added c.args.lines.bits c.args.line c.requires
