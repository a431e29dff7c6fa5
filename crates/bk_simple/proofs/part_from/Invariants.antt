use Rattle.bk_simple.proofs.PartTrials.{NoneBelow}
use Rattle.bk_simple.proofs.part_from.Given as goal

abbrev pub invariant-loop-j : goal.invariant-loop-j
invariant-loop-j l = NoneBelow l.tiling l.i l.j
