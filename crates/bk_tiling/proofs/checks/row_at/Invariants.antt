use Rattle.std.proofs.Common.{count_by, ℕ, ◌-◌, ◌<◌, ◌≤◌}
use Rattle.bk_tiling.specs.Tiling.{covers}
use Rattle.bk_tiling.proofs.checks.row_at.Given as goal

abbrev pub invariant-columns : goal.invariant-columns
invariant-columns l = record {
  below : l.y < l.until;
  most : l.until ≤ l.height;
  covered : (i j : ℕ) → i < l.x → l.y ≤ j → j < l.until → 0 < count_by (covers i j) l.squares;
}

abbrev pub decreases-columns : goal.decreases-columns
decreases-columns l = l.width - l.x
