-- A rectangle whose border cuts no square of a tiling is a part of it, where at least two squares and not all lie in it.
use Rattle.std.specs.Prelude.{count_by, false, get_or, length, true, ℕ, ◌+◌, ◌<◌}
use Rattle.std.specs.Prelude.{◌||◌, ◌≡◌, ◌≤◌, ◌⊎◌}
use Rattle.std.proofs.Common.{arith, inl, inr, subst, sym, ◌∙◌}
use Rattle.std.proofs.lemmas.Bool.{and_from, and_parts, le-leb}
use Rattle.std.proofs.lemmas.Bool.{leb-false, leb-true, or_cases, or_parts}
use Rattle.std.proofs.lemmas.List.Elements.{All-from_recursion, recursion_from_All}
use Rattle.std.proofs.lemmas.List.Sums.{AllPass-from_list_all, length-filter}
use Rattle.bk_laws.proofs.Counts.{count_by-filter_same, count_two}
use Rattle.bk_laws.proofs.AllOfLists.{all-filter}
use Rattle.bk_tiling.proofs.Cells.{IsOver, over_from}
use Rattle.bk_tiling.proofs.Places.{at_place}
use Rattle.bk_tiling.proofs.TilingLaws.{a_square_over_each_cell, cell_once}
use Rattle.bk_tiling.specs.Tiling.{IsOneOf, IsTiling, IsWithin, Rectangle, Tiling, covers, order, whole}
use Rattle.bk_tiling.specs.declared.Square.{Square}
use Rattle.bk_simple.specs.Border.{IsUncut, is_inside, is_outside}
use Rattle.bk_simple.specs.Simple.{IsPart}

-- a square that the test puts outside a rectangle ends before it or begins behind it, across or down
pub outside_means : (r : Rectangle) (q : Square) → is_outside r q ≡ true
    → ((q.x + q.s ≤ r.x) ⊎ (r.x + r.width ≤ q.x)) ⊎ ((q.y + q.s ≤ r.y) ⊎ (r.y + r.height ≤ q.y))
outside_means r q e = elim (or_cases _ _ e) [
  | inl across ↦ elim (or_cases _ _ across) [ inl h ↦ inl (inl (leb-true _ _ h)) | inr h ↦ inl (inr (leb-true _ _ h)) ]
  | inr along ↦ elim (or_cases _ _ along) [ inl h ↦ inr (inl (leb-true _ _ h)) | inr h ↦ inr (inr (leb-true _ _ h)) ]
]

-- a square that the test puts inside a rectangle lies within it
pub inside_means : (r : Rectangle) (q : Square) → is_inside r q ≡ true → IsWithin r q
inside_means r q h =
    let parts = and_parts _ _ h in
    let across = and_parts _ _ parts.0 in
    let along = and_parts _ _ parts.1 in
    record { left = leb-true _ _ across.0; right = leb-true _ _ across.1; top = leb-true _ _ along.0; bottom = leb-true _ _ along.1 }

-- a square that lies within a rectangle passes the test whether it lies inside
pub inside_from : (r : Rectangle) (q : Square) → IsWithin r q → is_inside r q ≡ true
inside_from r q h = and_from _ _ (and_from _ _ (le-leb _ _ h.left) (le-leb _ _ h.right)) (and_from _ _ (le-leb _ _ h.top) (le-leb _ _ h.bottom))

-- a square over a cell of the rectangle is not outside it
over_cell : (r : Rectangle) (q : Square) (i j : ℕ) → covers i j q ≡ true → r.x ≤ i → i < r.x + r.width → r.y ≤ j → j < r.y + r.height
    → is_outside r q ≡ true → ⊥
over_cell r q i j over left right top bottom e = cases (over_from i j q over) (outside_means r q e)
  where
    cases : IsOver i j q → ((q.x + q.s ≤ r.x) ⊎ (r.x + r.width ≤ q.x)) ⊎ ((q.y + q.s ≤ r.y) ⊎ (r.y + r.height ≤ q.y)) → ⊥
    cases o (inl (inl h)) = omega (arith, o.right)
    cases o (inl (inr h)) = omega (arith, o.left)
    cases o (inr (inl h)) = omega (arith, o.bottom)
    cases o (inr (inr h)) = omega (arith, o.top)

-- a square and a rectangle that are not outside each other share a cell
pub record Meets (r : Rectangle) (q : Square) : Type 0 where
  pub left : r.x < q.x + q.s
  pub right : q.x < r.x + r.width
  pub top : r.y < q.y + q.s
  pub bottom : q.y < r.y + r.height

-- a square that isn't found outside of a rectangle meets it
pub meets_where_not_outside : (r : Rectangle) (q : Square) → is_outside r q ≡ false → Meets r q
meets_where_not_outside r q e =
    let parts = or_parts _ _ e in
    let across = or_parts _ _ parts.0 in
    let along = or_parts _ _ parts.1 in
    record { left = leb-false _ _ across.0; right = leb-false _ _ across.1; top = leb-false _ _ along.0; bottom = leb-false _ _ along.1 }

module _ (t : Tiling) (tiling : IsTiling t) where
  -- the square at a place of a tiling lies within the rectangle
  pub within_at : (k : ℕ) (d : Square) → k < length t.squares → IsWithin (whole t) (get_or t.squares k d)
  within_at k d few = All-from_recursion (IsWithin (whole t)) t.squares tiling.tiles.within k d few

  -- the square at a place of a tiling has a side
  pub square_at_a_place_has_a_side : (k : ℕ) (d : Square) → k < length t.squares → 0 < (get_or t.squares k d).s
  square_at_a_place_has_a_side k d few = All-from_recursion (λ q. 0 < q.s) t.squares tiling.tiles.sides k d few

  -- a square over a cell stands at one place
  pub no_two_squares_over_a_cell : (i j k l : ℕ) (d : Square) → i < t.width → j < t.height → k < l → l < length t.squares
      → covers i j (get_or t.squares k d) ≡ true → covers i j (get_or t.squares l d) ≡ true → ⊥
  no_two_squares_over_a_cell i j k l d wide high before few over also =
      omega (arith, count_two (covers i j) t.squares k l d before few over also, cell_once t tiling i j wide high)

  -- the square over a cell
  pub record IsAt (d : Square) (c j : ℕ) : Type 0 where
    pub place : ℕ
    pub below : place < length t.squares
    pub over : covers c j (get_or t.squares place d) ≡ true

  -- each cell of the rectangle lies in a square
  pub square_over : (d : Square) (c j : ℕ) → c < t.width → j < t.height → IsAt d c j
  square_over d c j wide high = from (a_square_over_each_cell t tiling c j wide high)
    where
      from : (q : Square) × IsOneOf q t.squares × (covers c j q ≡ true) → IsAt d c j
      from (q, one, over) =
          let found = at_place t.squares q one in
          record { place = found.0; below = found.1; over = subst (λ (s : Square). covers c j s ≡ true) (sym (found.2 d)) over }

  -- a rectangle whose border cuts no square is a part where it has enough squares, and not all
  pub part_from_count : (r : Rectangle) → r.x + r.width ≤ t.width → r.y + r.height ≤ t.height → IsUncut r t.squares
      → 2 ≤ count_by (is_inside r) t.squares → count_by (is_inside r) t.squares < order t → IsPart t r
  part_from_count r right bottom uncut several not_all = record {
    pick = is_inside r;
    several = omega (arith, several, length-filter (is_inside r) t.squares);
    not_all = omega (arith, not_all, length-filter (is_inside r) t.squares);
    tiled = record {
      some = omega (arith, several, length-filter (is_inside r) t.squares);
      sides = all-filter (λ q. 0 < q.s) (is_inside r) t.squares (recursion_from_All _ t.squares (λ k d few picked. square_at_a_place_has_a_side k d few));
      within = all-filter (IsWithin r) (is_inside r) t.squares (recursion_from_All _ t.squares (λ k d few picked. inside_means r _ picked));
      once = λ i j left wide top high. count_by-filter_same (is_inside r) (covers i j) t.squares
          (recursion_from_All _ t.squares (λ k d few over. picked i j left wide top high k d few over))
          ∙ cell_once t tiling i j (omega arith) (omega arith);
    };
  }
    where
      picked : (i j : ℕ) → r.x ≤ i → i < r.x + r.width → r.y ≤ j → j < r.y + r.height → (k : ℕ) (d : Square) → k < length t.squares
          → covers i j (get_or t.squares k d) ≡ true → is_inside r (get_or t.squares k d) ≡ true
      picked i j left wide top high k d few over =
          elim (or_cases _ _ (AllPass-from_list_all (λ q. is_inside r q || is_outside r q) t.squares uncut k d few)) [
            | inl h ↦ h
            | inr h ↦ absurd (over_cell r (get_or t.squares k d) i j over left wide top high h)
          ]
