-- The drawing of the rectangle of three squares.
use Rattle.std.specs.Prelude.{codes, refl, ◌≡◌}
use Rattle.bk_tiling.proofs.ExampleTilings.{rectangle_3x2, square_at}
use Rattle.bk_draw.specs.Drawing.{character, drawing_row}
use Rattle.bk_draw.specs.Mark.{mark_of, seen}

row-0 : drawing_row rectangle_3x2 0 ≡ codes "+-++"
row-0 = refl

row-1 : drawing_row rectangle_3x2 1 ≡ codes "| ++"
row-1 = refl

row-2 : drawing_row rectangle_3x2 2 ≡ codes "+-++"
row-2 = refl

-- an edge of a square of side 2 drawn over a corner of another, and over a bar
seen-corner : seen 43 (mark_of (square_at 0 0 2) 1 0) ≡ 43
seen-corner = refl

seen-bar : seen 124 (mark_of (square_at 0 0 2) 1 0) ≡ 45
seen-bar = refl

-- a point within the square
mark-within : mark_of (square_at 0 0 2) 1 1 ≡ 32
mark-within = refl

-- its row at level 1 has a space, and ends with a corner
space-within : character rectangle_3x2 1 1 ≡ 32
space-within = refl

corner-last : character rectangle_3x2 3 1 ≡ 43
corner-last = refl
