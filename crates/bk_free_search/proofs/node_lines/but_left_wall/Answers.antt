use Rattle.std.proofs.Common.{refl}
use Rattle.bk_free_search.proofs.Boards.TouchedLines.{masked_line}
use Rattle.bk_free_search.proofs.node_lines.but_left_wall.Goals as goal

pub returns : goal.returns
returns c line has = masked_line c.args.lines.bits 4294967294 0 line refl has
