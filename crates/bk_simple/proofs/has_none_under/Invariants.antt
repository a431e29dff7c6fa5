use Rattle.bk_tiling.specs.Tiling.{IsTiling}
use Rattle.bk_simple.proofs.SideWalks.{IsWalk}
use Rattle.bk_simple.proofs.has_none_under.Given as goal

abbrev pub invariant-loop-k : goal.invariant-loop-k
invariant-loop-k l = (tiling : IsTiling l.tiling) → IsWalk l.tiling tiling (record { x = 0; y = 0; s = 0 }) l.fn.i l.right l.k l.left_end l.right_end
