-- The area of squares: how many cells they have together, each taken for itself.
-- Example (TilingExamples): the squares 2, 1, 1 of the rectangle 3x2 have its area, 6.
use Rattle.std.specs.Prelude.{List, [], ℕ, ◌*◌, ◌+◌, ◌∷◌}
use Rattle.bk_tiling.specs.declared.Square.{Square}

abbrev pub area_of : List Square → ℕ
area_of [] = 0
area_of (q ∷ squares) = q.s * q.s + area_of squares
