-- What holds of drawings. Statements alone; they are proved apart.
-- Example (DrawingExamples): the row "| ++" of the rectangle 3x2 has a space within, and none at its end.
use Rattle.std.specs.Prelude.{ℕ, ◌≢◌, ◌≤◌}
use Rattle.bk_tiling.specs.Tiling.{IsTiling, Tiling}
use Rattle.bk_draw.specs.Drawing.{character}

-- no row ends with a space, since its last point lies on a right side
abbrev pub NoRowEndsWithASpace : Type 0
NoRowEndsWithASpace = (t : Tiling) (y : ℕ) → IsTiling t → y ≤ t.height → character t t.width y ≢ 32
