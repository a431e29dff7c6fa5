use Rattle.std.proofs.Common.{ℕ, ◌<◌}
use Rattle.bk_tiling.specs.Refusal.{ShareCellAt}
use Rattle.bk_tiling.proofs.checks.first_overlap.Given as goal

abbrev pub invariant-loop-i : goal.invariant-loop-i
invariant-loop-i l = (i j : ℕ) → i < l.i → i < j → ¬ (ShareCellAt l.squares i j)
