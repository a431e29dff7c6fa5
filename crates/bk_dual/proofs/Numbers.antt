-- The number of a square, by its place among squares in the order of a code.
use Rattle.std.specs.List.{position_or_len}
use Rattle.std.specs.List.Sorted.{IsPartitionPoint}
use Rattle.std.proofs.Common.{Bool, List, [], ap, arith, false, inl, inr, length, map, refl, slice_index_or, subst, suc, sym, true, zero, ℕ, ◌&&◌}
use Rattle.std.proofs.Common.{◌+◌, ◌-◌, ◌<◌, ◌==◌, ◌∙◌, ◌∷◌, ◌≡◌, ◌≤◌, ◌⊎◌}
use Rattle.std.proofs.lemmas.Bool.{both_ways, cases_lt}
use Rattle.std.proofs.lemmas.Bool.Decides.{nat_tests}
use Rattle.std.proofs.lemmas.List.Sums.{fails_before_first, passes_at_first, position_or_len_is}
use Rattle.bk_tiling.proofs.Cells.{covers_from}
use Rattle.bk_tiling.proofs.Members.{one_at}
use Rattle.bk_tiling.proofs.PuttingInOrder.{from_order, in_order}
use Rattle.bk_tiling.proofs.TilingGroups.{one_there}
use Rattle.bk_tiling.proofs.TilingLaws.{side_of}
use Rattle.bk_tiling.specs.CodeOrder.{InCodeOrder, comes_before, is_no_later}
use Rattle.bk_tiling.specs.Tiling.{IsOneOf, IsTiling, Tiling}
use Rattle.bk_tiling.specs.declared.Square.{Square}
use Rattle.bk_sym.proofs.Images.{from_map, in_map}
use Rattle.bk_sym.specs.Image.{image, image_square}
use Rattle.bk_sym.specs.declared.Turn.TheVariants.{Swap}
use Rattle.std.specs.Prelude.{pos, ℤ, ◌-ℤ◌}
use Rattle.bk_tiling.proofs.Places.{at_place, later_place}
use Rattle.bk_net.specs.Diagram.{node_levels}
use Rattle.bk_net.specs.SmithFlow.{smith_flow}
use Rattle.bk_dual.specs.Dual.{dual_flow, dual_order, number_at, side_numbered}

-- whether a square stands at a place
abbrev pub stands_at : ℕ → ℕ → Square → Bool
stands_at x y q = (q.x == x) && (q.y == y)

-- a square stands at its own place
pub stands_itself : (q : Square) → stands_at q.x q.y q ≡ true
stands_itself q = grind (arith, nat_tests)

-- a square that comes before another one stands elsewhere
pub earlier_stands_apart : (q r : Square) → comes_before r q ≡ true → stands_at q.x q.y r ≡ false
earlier_stands_apart q r e = grind (arith, nat_tests)

no_later_itself : (q : Square) → is_no_later q.x q.y q ≡ true
no_later_itself q = grind (arith, nat_tests)

later_is_later : (q r : Square) → comes_before q r ≡ true → is_no_later q.x q.y r ≡ false
later_is_later q r e = grind (arith, nat_tests)

module _ (squares : List Square) (ordered : InCodeOrder squares) (q : Square) (one : IsOneOf q squares) where
  -- the square's place is the first of a square that stands there
  pub record HasPlace : Type 0 where
    pub place : ℕ
    pub within : place < length squares
    pub at : (d : Square) → slice_index_or squares place d ≡ q
    pub is : position_or_len (stands_at q.x q.y) squares ≡ place

  -- a square's place in the list is the first at which one stands where it does
  pub has_place : HasPlace
  has_place = from (at_place squares q one)
    where
      from : (m : ℕ) × (m < length squares) × ((d : Square) → slice_index_or squares m d ≡ q) → HasPlace
      from (m, there, at) = record {
        place = m;
        within = there;
        at = at;
        is = position_or_len_is (stands_at q.x q.y) squares m q (omega arith)
            (λ k below. earlier_stands_apart q (slice_index_or squares k q)
            (subst (λ (r : Square). comes_before (slice_index_or squares k q) r ≡ true) (at q) (later_place squares ordered k m q below there)))
            (λ h. ap (stands_at q.x q.y) (at q) ∙ stands_itself q);
      }

  -- as many squares come no later than a square as its place says, and itself
  pub count_no_later : (k : ℕ) → k ≤ length squares → IsPartitionPoint (λ r. is_no_later q.x q.y r ≡ true) (λ r. is_no_later q.x q.y r ≡ false) squares k
      → k ≡ position_or_len (stands_at q.x q.y) squares + 1
  count_no_later k within parts = omega (arith, has_place.is, last)
    where
      last : k ≡ has_place.place + 1
      last = by (cases_lt has_place.place k)
        where
          by : (has_place.place < k) ⊎ (k ≤ has_place.place) → k ≡ has_place.place + 1
          by (inr late) = absurd (both_ways (is_no_later q.x q.y (slice_index_or squares has_place.place q))
              (parts.1 has_place.place q late has_place.within) (ap (is_no_later q.x q.y) (has_place.at q) ∙ no_later_itself q))
          by (inl soon) = more (cases_lt (has_place.place + 1) k)
            where
              more : (has_place.place + 1 < k) ⊎ (k ≤ has_place.place + 1) → k ≡ has_place.place + 1
              more (inr h) = omega arith
              more (inl h) = absurd (both_ways (is_no_later q.x q.y (slice_index_or squares (has_place.place + 1) q))
                  (later_is_later q (slice_index_or squares (has_place.place + 1) q)
                  (subst (λ (r : Square). comes_before r (slice_index_or squares (has_place.place + 1) q) ≡ true) (has_place.at q)
                  (later_place squares ordered has_place.place (has_place.place + 1) q (omega arith) (omega arith))))
                  (parts.0 (has_place.place + 1) q (omega arith) h))

-- the square of the tiling that has an image
pub from_image : (t : Tiling) (p : Square) → IsOneOf p (image Swap t).squares → IsOneOf (record { x = p.y; y = p.x; s = p.s }) t.squares
from_image t p h =
    let found = from_map (image_square Swap t.width t.height) t.squares p (from_order (map (image_square Swap t.width t.height) t.squares) p h) in
    subst (λ (r : Square). IsOneOf (record { x = r.y; y = r.x; s = r.s }) t.squares) (sym found.2) found.1

side_at : (squares : List Square) (m : ℕ) (d : Square) → m < length squares → slice_index_or (map (λ q. q.s) squares) m 0 ≡ (slice_index_or squares m d).s
side_at [] m d h = absurd (omega arith)
side_at (q ∷ squares) zero d h = refl
side_at (q ∷ squares) (suc m) d h = side_at squares m d (omega arith)

-- where a square passes a test, the first place is one of the squares
pub first_within : (test : Square → Bool) (squares : List Square) (q : Square) → IsOneOf q squares → test q ≡ true
    → position_or_len test squares < length squares
first_within test squares q one e = by (cases_lt (position_or_len test squares) (length squares)) (at_place squares q one)
  where
    by : (position_or_len test squares < length squares) ⊎ (length squares ≤ position_or_len test squares)
        → (m : ℕ) × (m < length squares) × ((d : Square) → slice_index_or squares m d ≡ q) → position_or_len test squares < length squares
    by (inl h) at = h
    by (inr h) (m, there, at) = absurd (both_ways (test (slice_index_or squares m q)) (fails_before_first test squares m q (omega arith)) (ap test (at q) ∙ e))

stands_x : (x y : ℕ) (q : Square) → stands_at x y q ≡ true → q.x ≡ x
stands_x x y q e = grind (arith, nat_tests)

stands_y : (x y : ℕ) (q : Square) → stands_at x y q ≡ true → q.y ≡ y
stands_y x y q e = grind (arith, nat_tests)

module _ (t : Tiling) (tiling : IsTiling (image Swap t)) where
  -- a square that stands where one does whose image is known is that square
  same_side : (p : Square) → IsOneOf p (image Swap t).squares → (r : Square) → IsOneOf r t.squares → stands_at p.y p.x r ≡ true → r.s ≡ p.s
  same_side p one r there passes = ap (λ (q : Square). q.s) (sym same)
    where
      turned : IsOneOf (record { x = r.y; y = r.x; s = r.s }) (image Swap t).squares
      turned = in_order (map (image_square Swap t.width t.height) t.squares) (record { x = r.y; y = r.x; s = r.s })
          (in_map (image_square Swap t.width t.height) t.squares r there)

      some : 0 < p.s
      some = side_of (image Swap t) tiling p one

      long : 0 < r.s
      long = side_of (image Swap t) tiling (record { x = r.y; y = r.x; s = r.s }) turned

      x : r.x ≡ p.y
      x = stands_x p.y p.x r passes

      y : r.y ≡ p.x
      y = stands_y p.y p.x r passes

      same : p ≡ record { x = r.y; y = r.x; s = r.s }
      same = one_there (image Swap t) tiling p (record { x = r.y; y = r.x; s = r.s }) p.x p.y
          one (covers_from p.x p.y p (omega arith) (omega (arith, some)) (omega arith) (omega (arith, some)))
          turned (covers_from p.x p.y (record { x = r.y; y = r.x; s = r.s }) (omega (arith, y)) (omega (arith, y, long)) (omega (arith, x))
          (omega (arith, x, long)))

  -- the side of the square with the number of an image's square
  side_is : (p : Square) → IsOneOf p (image Swap t).squares → side_numbered t (number_at t p.y p.x) ≡ p.s
  side_is p one =
      ap (λ (n : ℕ). slice_index_or (map (λ q. q.s) t.squares) n 0) (less (position_or_len (stands_at p.y p.x) t.squares))
      ∙ side_at t.squares (position_or_len (stands_at p.y p.x) t.squares) p within
      ∙ same_side p one (slice_index_or t.squares (position_or_len (stands_at p.y p.x) t.squares) p)
      (one_at t.squares (position_or_len (stands_at p.y p.x) t.squares) p within)
      (passes_at_first (stands_at p.y p.x) t.squares p within)
    where
      less : (m : ℕ) → m + 1 - 1 ≡ m
      less m = omega arith

      within : position_or_len (stands_at p.y p.x) t.squares < length t.squares
      within = first_within (stands_at p.y p.x) t.squares (record { x = p.y; y = p.x; s = p.s }) (from_image t p one)
          (stands_itself (record { x = p.y; y = p.x; s = p.s }))

  sides_same : (squares : List Square) → ((p : Square) → IsOneOf p squares → IsOneOf p (image Swap t).squares)
      → map (λ n. pos (side_numbered t n)) (map (λ q. number_at t q.y q.x) squares) ≡ map (λ q. pos q.s) squares
  sides_same [] each = refl
  sides_same (q ∷ squares) each =
      λ i. pos (side_is q (each q (inl refl)) i) ∷ sides_same squares (λ p h. each p (inr h)) i

flow_same : (t : Tiling) (currents : List ℤ) → currents ≡ map (λ q. pos q.s) (image Swap t).squares
    → record { total = pos t.height; potentials = map (λ c. pos t.width -ℤ pos c) (node_levels (image Swap t)); currents = currents } ≡ smith_flow
    (image Swap t)
flow_same t currents e = λ i. record { total = pos t.height; potentials = map (λ c. pos t.width -ℤ pos c) (node_levels (image Swap t)); currents = e i }

-- the sides in the order of the numbers are the sides of the image
pub dual_flow_is : (t : Tiling) → IsTiling (image Swap t) → dual_flow t ≡ smith_flow (image Swap t)
dual_flow_is t tiling = flow_same t (map (λ n. pos (side_numbered t n)) (dual_order t)) (sides_same t tiling (image Swap t).squares (λ p h. h))

-- a square for the places past the list
abbrev pub nowhere : Square
nowhere = record { x = 0; y = 0; s = 0 }
