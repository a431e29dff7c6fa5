use Rattle.bk_tiling.specs.Sharing.{SharesWithNoneBefore}
use Rattle.bk_tiling.proofs.checks.first_sharing.Given as goal

abbrev pub invariant-loop-j : goal.invariant-loop-j
invariant-loop-j l = SharesWithNoneBefore l.squares l.i l.j
