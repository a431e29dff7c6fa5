use Rattle.bk_simple.proofs.PartTrials.{NoneBefore}
use Rattle.bk_simple.proofs.part.Given as goal

abbrev pub invariant-loop-i : goal.invariant-loop-i
invariant-loop-i l = NoneBefore l.tiling l.i
