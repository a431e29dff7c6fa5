-- How wide and how high a tiling can be: no wider and no higher than its sides laid end to end.
use Rattle.std.specs.List.{AllByRecursion}
use Rattle.std.proofs.Common.{List, [], arith, cond, count_by, inl, length, refl, sum_by, ℕ, ◌*◌, ◌+◌}
use Rattle.std.proofs.Common.{◌<◌, ◌≤◌, ◌∷◌}
use Rattle.std.proofs.lemmas.Bool.{and_from, le-leb, lt-ltb}
use Rattle.std.proofs.lemmas.List.Sums.{sum_by-cons}
use Rattle.bk_tiling.proofs.Cells.{counted_one, one_counted, over_from}
use Rattle.bk_tiling.proofs.TilingLaws.{cell_once, side_of, wide_enough, within_of}
use Rattle.bk_tiling.specs.KeptTiling.{IsKept, IsSide}
use Rattle.bk_tiling.specs.Tiling.{IsOneOf, IsTiling, Tiling, covers}
use Rattle.bk_tiling.specs.declared.Square.{Square}
use Rattle.bk_laws.proofs.SumsBelow.{spans, sum_below, sum_below-add, sum_below-ge_count, sum_below-same_terms, sum_below-span_and_min, sum_below-zero_terms}

-- numbers that each lie in the span of some square are no more than the sides laid end to end
module _ (from : Square → ℕ) where
  spans_below : (n : ℕ) (squares : List Square) → sum_below (λ i. count_by (λ q. spans (from q) q.s i) squares) n ≤ sum_by (λ q. q.s) squares
  spans_below n [] = omega (arith, sum_below-zero_terms (λ i. 0) n (λ i. refl))
  spans_below n (q ∷ squares) = omega (
    arith,
    sum_below-same_terms (λ i. count_by (λ q. spans (from q) q.s i) (q ∷ squares))
        (λ i. cond {A = ℕ} (spans (from q) q.s i) 1 0 + count_by (λ q. spans (from q) q.s i) squares) n
        (λ i. sum_by-cons (λ p. cond {A = ℕ} (spans (from p) p.s i) 1 0) q squares),
    sum_below-add (λ i. cond {A = ℕ} (spans (from q) q.s i) 1 0) (λ i. count_by (λ q. spans (from q) q.s i) squares) n,
    sum_below-span_and_min (from q) q.s n,
    spans_below n squares,
    sum_by-cons (λ (p : Square). p.s) q squares,
  )

  reach : (n : ℕ) (squares : List Square) → ((i : ℕ) → i < n → 0 < count_by (λ q. spans (from q) q.s i) squares) → n ≤ sum_by (λ q. q.s) squares
  reach n squares h = omega (arith, sum_below-ge_count (λ i. count_by (λ q. spans (from q) q.s i) squares) n h, spans_below n squares)

-- a tiling has a height
pub high_enough : (t : Tiling) → IsTiling t → 0 < t.height
high_enough t tiling = go t.squares (tiling.tiles).some (λ q h. h)
  where
    go : (squares : List Square) → 0 < length squares → ((q : Square) → IsOneOf q squares → IsOneOf q t.squares) → 0 < t.height
    go [] h f = absurd (omega arith)
    go (r ∷ squares) h f = let w = (within_of t tiling r (f r (inl refl))).bottom in omega (arith, side_of t tiling r (f r (inl refl)))

-- the columns of the top row lie in squares, and the levels of the first column
pub width_of_sides : (t : Tiling) → IsTiling t → t.width ≤ sum_by (λ (q : Square). q.s) t.squares
width_of_sides t tiling = reach (λ q. q.x) t.width t.squares over
  where
    over : (i : ℕ) → i < t.width → 0 < count_by (λ q. spans q.x q.s i) t.squares
    over i l =
        let found = counted_one (covers i 0) t.squares (omega (arith, cell_once t tiling i 0 l (high_enough t tiling))) in
        let o = over_from i 0 found.0 found.2 in
        one_counted (λ q. spans q.x q.s i) t.squares found.0 found.1 (and_from _ _ (le-leb _ _ o.left) (lt-ltb _ _ o.right))

-- a tiling is no higher than all its sides laid end to end
pub height_of_sides : (t : Tiling) → IsTiling t → t.height ≤ sum_by (λ (q : Square). q.s) t.squares
height_of_sides t tiling = reach (λ q. q.y) t.height t.squares over
  where
    over : (j : ℕ) → j < t.height → 0 < count_by (λ q. spans q.y q.s j) t.squares
    over j l =
        let found = counted_one (covers 0 j) t.squares (omega (arith, cell_once t tiling 0 j (wide_enough t tiling) l)) in
        let o = over_from 0 j found.0 found.2 in
        one_counted (λ q. spans q.y q.s j) t.squares found.0 found.1 (and_from _ _ (le-leb _ _ o.top) (lt-ltb _ _ o.bottom))

-- kept sides laid end to end are no longer than so many times the longest side that is allowed
pub sides_end_to_end : (squares : List Square) → AllByRecursion (λ q. IsSide q.s) squares
    → sum_by (λ (q : Square). q.s) squares ≤ length squares * 999_999_999_999_999
sides_end_to_end [] sides = omega arith
sides_end_to_end (q ∷ squares) sides = omega (arith, sum_by-cons (λ (p : Square). p.s) q squares, sides.0.1, sides_end_to_end squares sides.1)

-- of at most 200 squares with sides as long as a `Tiling` takes: the type of the code holds the size with room to spare
pub width_of_few : (t : Tiling) → IsTiling t → length t.squares ≤ 200 → AllByRecursion (λ q. IsSide q.s) t.squares → t.width ≤ 199999999999999800
width_of_few t tiling few sides = omega (arith, width_of_sides t tiling, sides_end_to_end t.squares sides)

-- a tiling of at most 200 kept sides has at most this height
pub height_of_few : (t : Tiling) → IsTiling t → length t.squares ≤ 200 → AllByRecursion (λ q. IsSide q.s) t.squares → t.height ≤ 199999999999999800
height_of_few t tiling few sides = omega (arith, height_of_sides t tiling, sides_end_to_end t.squares sides)

-- a kept tiling has at most this width
pub most_width : (t : Tiling) → IsKept t → t.width ≤ 199999999999999800
most_width t kept = width_of_few t kept.tiling kept.few kept.sides

-- a kept tiling has at most this height
pub most_height : (t : Tiling) → IsKept t → t.height ≤ 199999999999999800
most_height t kept = height_of_few t kept.tiling kept.few kept.sides
