-- Where a square lies at a rectangle: inside it, outside it, or across its border.
-- Example (SimpleExamples): of the squares of [2,1][1] the first lies outside the rectangle at 2,0 of 1 by 2, the
-- others inside.
use Rattle.std.specs.List.{list_all}
use Rattle.std.specs.Prelude.{Bool, IsTrue, List, nat_le, ◌&&◌, ◌+◌, ◌||◌}
use Rattle.bk_tiling.specs.Tiling.{Rectangle}
use Rattle.bk_tiling.specs.declared.Square.{Square}
use Rattle.bk_simple.specs.declared.SubRect.{SubRect}

-- what a `SubRect` of the code is
abbrev pub rectangle_of : SubRect → Rectangle
rectangle_of r = record { x = r.x; y = r.y; width = r.width; height = r.height }

-- whether all of the square lies in the rectangle
abbrev pub is_inside : Rectangle → Square → Bool
is_inside r q =
    (nat_le r.x q.x && nat_le (q.x + q.s) (r.x + r.width)) && (nat_le r.y q.y && nat_le (q.y + q.s) (r.y + r.height))

-- whether the square has no cell in the rectangle: it ends before it or begins behind it, across or down
abbrev pub is_outside : Rectangle → Square → Bool
is_outside r q =
    (nat_le (q.x + q.s) r.x || nat_le (r.x + r.width) q.x) || (nat_le (q.y + q.s) r.y || nat_le (r.y + r.height) q.y)

-- no square lies across the rectangle's border
abbrev pub IsUncut : Rectangle → List Square → Type 0
IsUncut r squares = IsTrue (list_all (λ q. is_inside r q || is_outside r q) squares)
