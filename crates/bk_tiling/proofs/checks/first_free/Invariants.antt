use Rattle.std.proofs.Common.{count_by, ℕ, ◌-◌, ◌<◌}
use Rattle.bk_tiling.specs.Tiling.{covers}
use Rattle.bk_tiling.proofs.checks.first_free.Given as goal

abbrev pub invariant-levels : goal.invariant-levels
invariant-levels l = (i j : ℕ) → i < l.width → j < l.y → 0 < count_by (covers i j) l.squares

abbrev pub decreases-levels : goal.decreases-levels
decreases-levels l = l.height - l.y
