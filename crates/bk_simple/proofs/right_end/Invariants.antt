use Rattle.bk_simple.proofs.Seams.{IsRunTo}
use Rattle.bk_simple.proofs.right_end.Given as goal

abbrev pub invariant-loop-k : goal.invariant-loop-k
invariant-loop-k l = IsRunTo l.tiling.squares l.i (record { x = 0; y = 0; s = 0 }) l.k l.end
