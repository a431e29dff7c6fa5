use Rattle.bk_laws.proofs.Bits.{bit_at-or_kept, bit_at-or_only}
use Rattle.bk_free_search.proofs.line_set.joined_lines.Goals as goal

pub returns-clause-only : goal.returns-clause-only
returns-clause-only c line has = bit_at-or_only c.args.lines.bits c.args.others.bits line has

pub returns-clause-all : goal.returns-clause-all
returns-clause-all c line has = bit_at-or_kept c.args.lines.bits c.args.others.bits line has
