-- Levels of a rectangle covered from left to right, and rows of levels from top to bottom.
use Rattle.std.proofs.Common.{List, Some, arith, count_by, inl, inr, min, ℕ, ◌+◌, ◌<◌, ◌≡◌, ◌≤◌, ◌⊎◌}
use Rattle.std.proofs.lemmas.Bool.{cases_lt}
use Rattle.std.specs.List.{find}
use Rattle.std.proofs.lemmas.List.Elements.{recursion_from_All}
use Rattle.bk_tiling.proofs.Cells.{covers_from, in_all, one_counted, over_from}
use Rattle.bk_tiling.proofs.Members.{found_one}
use Rattle.bk_tiling.specs.Refusal.{AreWithin, sized}
use Rattle.bk_tiling.specs.Tiling.{IsOneOf, IsWithin, covers}
use Rattle.bk_tiling.specs.declared.Square.{Square}

-- each cell of the columns before x lies in a square, from level y to the level before `until`
abbrev pub IsCoveredTo : List Square → ℕ → ℕ → ℕ → Type 0
IsCoveredTo squares x y until = (i j : ℕ) → i < x → y ≤ j → j < until → 0 < count_by (covers i j) squares

-- the square over the next free cell of a level
pub record IsOver (width height : ℕ) (squares : List Square) (x y : ℕ) (q : Square) : Type 0 where
  pub is : IsOneOf q squares
  pub left : q.x ≤ x
  pub further : x < q.x + q.s
  pub right : q.x + q.s ≤ width
  pub top : q.y ≤ y
  pub lower : y < q.y + q.s
  pub bottom : q.y + q.s ≤ height

-- the square that is found over a cell covers it and lies within the rectangle
pub is_over : (width height : ℕ) (squares : List Square) (x y : ℕ) (q : Square) → AreWithin width height squares → Some q ≡ find (covers x y) squares
    → IsOver width height squares x y q
is_over width height squares x y q within e =
    let found = found_one (covers x y) squares q e in
    let over = over_from x y q found.1 in
    let inside = in_all (IsWithin (sized width height)) squares (recursion_from_All (IsWithin (sized width height)) squares within) q found.0 in
    let right = inside.right in
    let bottom = inside.bottom in
    record { is = found.0; left = over.left; further = over.right; right = omega arith; top = over.top; lower = over.bottom; bottom = omega arith }

-- covers further columns
pub covered_more : (width height : ℕ) (squares : List Square) (x y until : ℕ) (q : Square) → IsOver width height squares x y q
    → IsCoveredTo squares x y until → IsCoveredTo squares (q.x + q.s) y (min until (q.y + q.s))
covered_more width height squares x y until q over covered i j left high low = cases (cases_lt i x)
  where
    cases : (i < x) ⊎ (x ≤ i) → 0 < count_by (covers i j) squares
    cases (inl before) = covered i j before high (omega arith)
    cases (inr here) = one_counted (covers i j) squares q over.is (covers_from i j q (omega (arith, over.left)) left (omega (arith, over.top)) (omega arith))

-- further levels are covered
pub levels_more : (width : ℕ) (squares : List Square) (y until : ℕ) → ((i j : ℕ) → i < width → j < y → 0 < count_by (covers i j) squares)
    → IsCoveredTo squares width y until
    → (i j : ℕ) → i < width → j < until → 0 < count_by (covers i j) squares
levels_more width squares y until above row i j wide low = cases (cases_lt j y)
  where
    cases : (j < y) ⊎ (y ≤ j) → 0 < count_by (covers i j) squares
    cases (inl before) = above i j wide before
    cases (inr here) = row i j wide here low
