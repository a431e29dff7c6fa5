use Rattle.bk_draw.proofs.Rows.{AreDrawn}
use Rattle.std.proofs.Common.{take}
use Rattle.bk_draw.proofs.draw_squares.Given as goal

abbrev pub invariant-loop-q : goal.invariant-loop-q
invariant-loop-q l = AreDrawn l.points (take l.q-index l.q-items) l.y
