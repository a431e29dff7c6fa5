-- The first overlap and the first cell that is not covered, worked out, with the rows over and at that cell.
use Rattle.std.proofs.Common.{List, [], arith, count_by, inl, inr, lit<, lit≤, refl, suc, zero, ℕ, ◌<◌, ◌∷◌}
use Rattle.bk_tiling.proofs.Cells.{over_from}
use Rattle.bk_tiling.proofs.ExampleTilings.{square_at}
use Rattle.bk_tiling.proofs.Refusing.{share_read}
use Rattle.bk_tiling.specs.Refusal.{IsFirstOverlap, IsFirstUncovered, IsLesserPair, ShareCellAt, SharesCell}
use Rattle.bk_tiling.specs.Row.{IsRowAt}
use Rattle.bk_tiling.specs.Sharing.{IsFirstSharing, SharesWithNoneBefore}
use Rattle.bk_tiling.specs.Tiling.{covers}
use Rattle.bk_tiling.specs.declared.Square.{Square}
use Rattle.bk_tiling.specs.declared.checks.Row.TheVariants.{Covered, Free}

-- three squares, of which the third lies over the corners of both others
abbrev crossing : List Square
crossing = square_at 0 0 2 ∷ square_at 2 0 2 ∷ square_at 1 1 2 ∷ []

side_by_side : ¬ (SharesCell (square_at 0 0 2) (square_at 2 0 2))
side_by_side s =
    let first = over_from s.column s.level (square_at 0 0 2) s.in_first in
    let second = over_from s.column s.level (square_at 2 0 2) s.in_second in
    omega (arith, first.right, second.left)

-- the places 0 and 1 share no cell, and 0 and 2 the cell in column 1 at level 1; 1 and 2 share a cell too, and come later
first_overlap : IsFirstOverlap crossing 0 2
first_overlap = record {
  ascending = omega arith;
  below = omega arith;
  here = record {
    first = square_at 0 0 2;
    second = square_at 1 1 2;
    first_is = refl;
    second_is = refl;
    share = record { column = 1; level = 1; in_first = refl; in_second = refl };
  };
  before = before;
}
  where
    before : (a b : ℕ) → a < b → IsLesserPair a b 0 2 → ¬ (ShareCellAt crossing a b)
    before zero zero up less s = omega arith
    before zero (suc zero) up less s = side_by_side (share_read crossing 0 1 (square_at 0 0 0) s)
    before zero (suc (suc b)) up (inl less) s = omega arith
    before zero (suc (suc b)) up (inr less) s = omega (arith, less.1)
    before (suc a) b up (inl less) s = omega arith
    before (suc a) b up (inr less) s = omega (arith, less.0)

-- a square of side 2 and one of side 1 in a rectangle of 3 columns and 2 levels: the cell in column 2 at level 1 is free
abbrev open_corner : List Square
open_corner = square_at 0 0 2 ∷ square_at 2 0 1 ∷ []

first_uncovered : IsFirstUncovered 3 2 open_corner 2 1
first_uncovered = record { column = omega arith; level = omega arith; free = refl; above = above; left = left }
  where
    above : (i j : ℕ) → i < 3 → j < 1 → 0 < count_by (covers i j) open_corner
    above i (suc j) within up = absurd (omega arith)
    above zero zero within up = omega arith
    above (suc zero) zero within up = omega arith
    above (suc (suc zero)) zero within up = omega arith
    above (suc (suc (suc i))) zero within up = absurd (omega arith)

    left : (i : ℕ) → i < 2 → 0 < count_by (covers i 1) open_corner
    left zero within = omega arith
    left (suc zero) within = omega arith
    left (suc (suc i)) within = absurd (omega arith)

-- these squares cover level 0, and not level 1: there column 2 is the first one that is free
covered_row : IsRowAt 3 open_corner 0 (Covered 1)
covered_row = (lit< tt, λ i j within from until. first_uncovered.above i j within until)

not_covered_row : IsRowAt 3 open_corner 0 (Covered 2) → ⊥
not_covered_row row = let some : 0 < 0 = row.1 2 1 (lit< tt) (lit≤ tt) (lit< tt) in omega (arith, some)

free_row : IsRowAt 3 open_corner 1 (Free 2)
free_row = (first_uncovered.column, first_uncovered.free, first_uncovered.left)

-- after place 0 the square at place 2 is the first that shares a cell with the one there
first_sharing : IsFirstSharing crossing 0 2
first_sharing = record { after = omega arith; below = omega arith; here = first_overlap.here; before = before }
  where
    before : SharesWithNoneBefore crossing 0 2
    before zero up within s = omega (arith, up)
    before (suc zero) up within s = side_by_side (share_read crossing 0 1 (square_at 0 0 0) s)
    before (suc (suc k)) up within s = omega (arith, within)
