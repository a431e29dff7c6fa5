-- A test that computes whether a tiling is simple: it tries the rectangles from the top left corner of one square
-- to the bottom right corner of another.
use Rattle.std.specs.List.{list_all}
use Rattle.std.specs.Prelude.{All, Bool, IsTrue, List, [], cond, count_by, false, filter, get_or, length, nat_le, nat_lt, not, refl, suc, true, zero}
use Rattle.std.specs.Prelude.{ℕ, ◌&&◌, ◌+◌, ◌-◌, ◌<◌, ◌∷◌, ◌≡◌, ◌≤◌, ◌⊎◌}
use Rattle.std.proofs.Common.{ap, arith, inl, inr, subst, sym}
use Rattle.std.proofs.lemmas.Bool.{and_from, and_parts, both_ways, cases_Bool, eq-eqb, le-leb, leb-true, lt-ltb, ltb-true, not-true}
use Rattle.std.proofs.lemmas.List.Elements.{All-from_recursion, recursion_from_All}
use Rattle.std.proofs.lemmas.List.Sums.{sum_by-cons}
use mathlib.Core.Bool.{beq}
use Rattle.bk_laws.proofs.AllOfLists.{all-filter_back, filter-same_test, list_all-from_all, list_all-get_or}
use Rattle.bk_laws.proofs.Truth.{same_test-of_implications}
use Rattle.bk_tiling.proofs.TilingTest.{all_between, once_test, tiles_test, within_from_test, within_test}
use Rattle.bk_tiling.specs.Tiling.{IsTiling, IsWithin, Rectangle, Tiles, Tiling, covers, order}
use Rattle.bk_tiling.specs.declared.Square.{Square}
use Rattle.bk_simple.proofs.SimpleLaws.{picked_within}
use Rattle.bk_simple.specs.Simple.{IsPart, IsSimple}

all_from_true : (a n : ℕ) (p : ℕ → Bool) → ((i : ℕ) → a ≤ i → i < a + n → IsTrue (p i)) → IsTrue (all_between a n p)
all_from_true a zero p holds = refl
all_from_true a (suc n) p holds =
    let last : p (a + n) ≡ true = holds (a + n) (omega arith) (omega arith) in
    and_from _ _ (subst (λ b. beq b true ≡ true) (sym last) refl) (all_from_true a n p (λ i low high. holds i low (omega arith)))

test_from_within : (r : Rectangle) (q : Square) → IsWithin r q → IsTrue (within_test r q)
test_from_within r q h = and_from _ _ (and_from _ _ (le-leb _ _ h.left) (le-leb _ _ h.right)) (and_from _ _ (le-leb _ _ h.top) (le-leb _ _ h.bottom))

test_from_tiles : (r : Rectangle) (squares : List Square) → Tiles r squares → IsTrue (tiles_test r squares)
test_from_tiles r squares h = and_from _ _
    (and_from _ _ (lt-ltb 0 (length squares) h.some) (list_all-from_all (λ q. 0 < q.s) (λ q. nat_lt 0 q.s) (λ q. lt-ltb 0 q.s) squares h.sides))
    (and_from _ _ (list_all-from_all (IsWithin r) (within_test r) (test_from_within r) squares h.within)
    (all_from_true r.x r.width (λ i. all_between r.y r.height (once_test squares i)) (λ i left right.
    all_from_true r.y r.height (once_test squares i) (λ j top bottom. eq-eqb _ _ (h.once i j left right top bottom)))))

-- a selected element that is counted
abbrev Found : {X : Type 0} → (X → Bool) → (X → Bool) → List X → X → Type 0
Found p c xs d = (k : ℕ) × (k < length xs) × IsTrue (p (get_or xs k d)) × IsTrue (c (get_or xs k d))

found_selected : {X : Type 0} (p c : X → Bool) (xs : List X) (d : X) → 0 < count_by c (filter p xs) → Found p c xs d
found_selected p c [] d some = absurd (omega arith)
found_selected p c (x ∷ xs) d some = step (cases_Bool (p x)) (cases_Bool (c x)) (λ more. later (found_selected p c xs d more))
  where
    later : Found p c xs d → Found p c (x ∷ xs) d
    later h = (suc h.0, omega (arith, h.1), h.2, h.3)

    step : (p x ≡ true) ⊎ (p x ≡ false) → (c x ≡ true) ⊎ (c x ≡ false) → (0 < count_by c (filter p xs) → Found p c (x ∷ xs) d) → Found p c (x ∷ xs) d
    step (inl picked) (inl counted) ih = (0, omega arith, picked, counted)
    step (inl picked) (inr not_counted) ih =
        let more : 0 < count_by c (x ∷ filter p xs) = subst (λ b. 0 < count_by c (cond b (x ∷ filter p xs) (filter p xs))) picked some in
        let none : ◌≡◌ {A = ℕ} (cond (c x) 1 0) 0 = ap (λ b. cond b 1 0) not_counted in
        ih (omega (arith, more, none, sum_by-cons (λ y. cond (c y) 1 0) x (filter p xs)))
    step (inr none) counted ih = ih (subst (λ b. 0 < count_by c (cond b (x ∷ filter p xs) (filter p xs))) none some)

rectangle-same : (a b : Rectangle) → a.x ≡ b.x → a.y ≡ b.y → a.width ≡ b.width → a.height ≡ b.height → a ≡ b
rectangle-same a b ex ey ew eh = λ i. record { x = ex i; y = ey i; width = ew i; height = eh i }

-- the rectangle from the top left corner of the first square to the bottom right corner of the second
abbrev pub rectangle_between : Square → Square → Rectangle
rectangle_between p q = record { x = p.x; y = p.y; width = q.x + q.s - p.x; height = q.y + q.s - p.y }

-- some rectangle from the top left corner of one square to the bottom right corner of another is a part
abbrev pub part_test : Tiling → Rectangle → Bool
part_test t r = (nat_le 2 (length (filter (within_test r) t.squares)) && nat_lt (length (filter (within_test r) t.squares)) (order t))
    && tiles_test r (filter (within_test r) t.squares)

-- no such rectangle is a part
abbrev pub simple_test : Tiling → Bool
simple_test t = list_all (λ p. list_all (λ q. not (part_test t (rectangle_between p q))) t.squares) t.squares

-- the cell lies in a square that is covered
covers_cell : (q : Square) (i j : ℕ) → IsTrue (covers i j q) → (q.x ≤ i) × (i < q.x + q.s) × (q.y ≤ j) × (j < q.y + q.s)
covers_cell q i j h =
    let parts = and_parts _ _ h in
    let across = and_parts _ _ parts.0 in
    let along = and_parts _ _ parts.1 in
    (leb-true _ _ across.0, ltb-true _ _ across.1, leb-true _ _ along.0, ltb-true _ _ along.1)

module _ (t : Tiling) (r : Rectangle) (tiling : IsTiling t) (part : IsPart t r) where
  abbrev none : Square
  none = record { x = 0; y = 0; s = 0 }

  abbrev at : ℕ → Square
  at k = get_or t.squares k none

  -- what is selected lies within, and what lies within is selected
  pub selected_within : (k : ℕ) → k < length t.squares → IsTrue (part.pick (at k)) → IsWithin r (at k)
  selected_within k few picked =
      All-from_recursion (λ q. IsTrue (part.pick q) → IsWithin r q) t.squares
      (all-filter_back (IsWithin r) part.pick t.squares part.tiled.within) k none few picked

  -- the squares of a part are those within its rectangle
  pub same_selection : filter part.pick t.squares ≡ filter (within_test r) t.squares
  same_selection = filter-same_test part.pick (within_test r) t.squares (recursion_from_All _ t.squares agree)
    where
      agree : All (λ q. part.pick q ≡ within_test r q) t.squares
      agree k d few = same_test-of_implications (part.pick (get_or t.squares k d)) (within_test r (get_or t.squares k d))
          (λ picked. test_from_within r _ (All-from_recursion (λ q. IsTrue (part.pick q) → IsWithin r q) t.squares
          (all-filter_back (IsWithin r) part.pick t.squares part.tiled.within) k d few picked))
          (λ inside. picked_within t r part.pick tiling part.tiled k d few (within_from_test r _ inside))

  -- the rectangle has a cell
  pub has_cell : (0 < r.width) × (0 < r.height)
  has_cell =
      let first = All-from_recursion (λ q. 0 < q.s) (filter part.pick t.squares) part.tiled.sides 0 none part.tiled.some in
      let inside = All-from_recursion (IsWithin r) (filter part.pick t.squares) part.tiled.within 0 none part.tiled.some in
      (omega (arith, first, inside.left, inside.right), omega (arith, first, inside.top, inside.bottom))

  part_passes : IsTrue (part_test t r)
  part_passes = subst (λ (qs : List Square). ((nat_le 2 (length qs) && nat_lt (length qs) (order t)) && tiles_test r qs) ≡ true) same_selection
      (and_from _ _ (and_from _ _ (le-leb _ _ part.several) (lt-ltb _ _ part.not_all)) (test_from_tiles r (filter part.pick t.squares) part.tiled))

  -- the squares at its corners
  pub first_corner : Found part.pick (covers r.x r.y) t.squares none
  first_corner = found_selected part.pick (covers r.x r.y) t.squares none
      (let one = part.tiled.once r.x r.y (omega arith) (omega (arith, has_cell.0)) (omega arith) (omega (arith, has_cell.1)) in omega (arith, one))

  -- a square of a part lies over the last cell of its rectangle
  pub last_corner : Found part.pick (covers (r.x + r.width - 1) (r.y + r.height - 1)) t.squares none
  last_corner = found_selected part.pick (covers (r.x + r.width - 1) (r.y + r.height - 1)) t.squares none
      (let one = part.tiled.once (r.x + r.width - 1) (r.y + r.height - 1) (omega (arith, has_cell.0)) (omega (arith, has_cell.0))
      (omega (arith, has_cell.1)) (omega (arith, has_cell.1)) in omega (arith, one))

  corners : rectangle_between (at first_corner.0) (at last_corner.0) ≡ r
  corners =
      let p = selected_within first_corner.0 first_corner.1 first_corner.2 in
      let q = selected_within last_corner.0 last_corner.1 last_corner.2 in
      let c = covers_cell (at first_corner.0) r.x r.y first_corner.3 in
      let d = covers_cell (at last_corner.0) (r.x + r.width - 1) (r.y + r.height - 1) last_corner.3 in
      rectangle-same _ r (omega (arith, p.left, c.0)) (omega (arith, p.top, c.2))
      (omega (arith, p.left, c.0, q.right, d.1, has_cell.0)) (omega (arith, p.top, c.2, q.bottom, d.3, has_cell.1))

  no_part : IsTrue (simple_test t) → ⊥
  no_part test =
      let outer = list_all-get_or (λ p. list_all (λ q. not (part_test t
      (rectangle_between p q))) t.squares) t.squares first_corner.0 none test first_corner.1 in
      let inner = list_all-get_or (λ q. not (part_test t (rectangle_between (at first_corner.0) q))) t.squares last_corner.0 none outer last_corner.1 in
      let fails : part_test t r ≡ false = subst (λ s. part_test t s ≡ false) corners (not-true _ inner) in
      both_ways (part_test t r) fails part_passes

-- a tiling that passes the test is simple
pub simple_from_test : (t : Tiling) → IsTiling t → IsTrue (simple_test t) → IsSimple t
simple_from_test t tiling test (r, part) = no_part t r tiling part test
