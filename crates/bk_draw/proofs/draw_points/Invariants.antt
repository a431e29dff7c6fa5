use Rattle.bk_draw.specs.Mark.{IsDrawnBetween, mark_of}
use Rattle.bk_draw.proofs.draw_points.Given as goal

abbrev pub invariant-loop-x : goal.invariant-loop-x
invariant-loop-x l = IsDrawnBetween (λ x. mark_of l.q x l.y) l.from l.x l.initial.points l.points
