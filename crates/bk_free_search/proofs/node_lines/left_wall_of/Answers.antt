use Rattle.bk_laws.proofs.Bits.{bit_at-and_left}
use Rattle.bk_free_search.proofs.node_lines.left_wall_of.Goals as goal

pub returns : goal.returns
returns c line has = bit_at-and_left c.args.lines.bits 1 line has
