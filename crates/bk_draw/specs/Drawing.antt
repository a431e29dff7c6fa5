-- The drawing of a tiling in characters: one for each point of its grid.
-- Example (DrawingExamples): the rectangle 3x2 of the squares 2, 1, 1 has the rows "+-++", "| ++" and "+-++".
use Rattle.std.specs.List.{list_any, range_with_len}
use Rattle.std.specs.Prelude.{Bool, List, if◌then◌else◌, map, nat_le, ℕ, ◌&&◌, ◌+◌}
use Rattle.bk_tiling.specs.Point.{is_at_edge, is_at_side, is_corner}
use Rattle.bk_tiling.specs.Tiling.{Tiling}
use Rattle.bk_tiling.specs.declared.Square.{Square}

-- whether the column is one of those from the square's left side to its right side
abbrev pub is_across : Square → ℕ → Bool
is_across q x = nat_le q.x x && nat_le x (q.x + q.s)

-- whether the level is one of those from the square's upper side to its lower side
abbrev pub is_along : Square → ℕ → Bool
is_along q y = nat_le q.y y && nat_le y (q.y + q.s)

-- the character at a point that squares draw: `+` at a corner, `-` on an upper or lower side, a bar on a left or right
-- side, and a space elsewhere
abbrev pub drawn : List Square → ℕ → ℕ → ℕ
drawn squares x y =
    if list_any (is_corner x y) squares then 43 else
    if list_any (λ q. is_across q x && is_at_edge q y) squares then 45 else
    if list_any (λ q. is_at_side q x && is_along q y) squares then 124 else 32

-- the character at a point of a tiling
abbrev pub character : Tiling → ℕ → ℕ → ℕ
character t x y = drawn t.squares x y

-- the row of the drawing at a level, from left to right
abbrev pub drawing_row : Tiling → ℕ → List ℕ
drawing_row t y = map (λ x. character t x y) (range_with_len 0 (t.width + 1))
