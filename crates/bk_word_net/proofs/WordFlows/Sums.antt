-- What flows out of a node of a word's net and into it, as sums of sides: of the squares that hang from it, and of
-- those that end there.
use Rattle.std.specs.List.{AllByRecursion}
use Rattle.std.specs.Prelude.{pos, ◌-ℤ◌}
use Rattle.std.proofs.Common.{List, Some, [], ap, arith, cond, inl, inr, length, map, nat_eq, refl, replicate, slice_get, subst, suc}
use Rattle.std.proofs.Common.{zero, ℕ, ◌*◌, ◌++◌, ◌+◌, ◌<◌, ◌∷◌, ◌≡◌}
use Rattle.std.proofs.lemmas.Bool.Decides.{nat_tests}
use Rattle.std.proofs.lemmas.Int.{ints}
use Rattle.bk_laws.proofs.Occurrences.{times}
use Rattle.bk_laws.proofs.Totals.{total}
use Rattle.bk_laws.proofs.Magnitudes.{signed_terms-wire}
use Rattle.bk_laws.proofs.TestsAsNumbers.{cond-as_product}
use Rattle.bk_tiling.proofs.Rows.{laid_sides}
use Rattle.bk_tiling.specs.Tiling.{IsOneOf}
use Rattle.bk_tiling.specs.declared.Square.{Square}
use Rattle.bk_net.specs.Flow.{outflow}
use Rattle.bk_lay.specs.Depiction.{Span}
use Rattle.bk_word_net.proofs.WordFlows.Wires.{wires_by}

-- the sum of the sides whose squares hang from node v
abbrev pub out_sum : List ℕ → List ℕ → ℕ → ℕ
out_sum [] sides v = 0
out_sum (h ∷ hung) [] v = 0
out_sum (h ∷ hung) (s ∷ sides) v = cond (nat_eq h v) s 0 + out_sum hung sides v

-- the sum of the sides whose numbers, from b on, f sends to v
abbrev pub in_sum : (ℕ → ℕ) → ℕ → List ℕ → ℕ → ℕ
in_sum f b [] v = 0
in_sum f b (s ∷ sides) v = cond (nat_eq (f b) v) s 0 + in_sum f (b + 1) sides v

-- the sides of squares are positive
pub positive_sides : (squares : List Square) → ((q : Square) → IsOneOf q squares → 0 < q.s) → AllByRecursion (λ s. 0 < s) (laid_sides squares)
positive_sides [] each = tt
positive_sides (q ∷ squares) each = (each q (inl refl), positive_sides squares (λ r h. each r (inr h)))

-- what flows out of a node: the sides that hang from it, less those that end on it
pub outflow_is : (f : ℕ → ℕ) (b : ℕ) (hung sides : List ℕ) (v : ℕ) → length hung ≡ length sides
    → outflow (wires_by f b hung) (map pos sides) v ≡ pos (out_sum hung sides v) -ℤ pos (in_sum f b sides v)
outflow_is f b [] [] v e = omega (arith, ints)
outflow_is f b [] (s ∷ sides) v e = absurd (omega arith)
outflow_is f b (h ∷ hung) [] v e = absurd (omega arith)
outflow_is f b (h ∷ hung) (s ∷ sides) v e =
    signed_terms-wire (nat_eq h v) (nat_eq (f b) v) s (out_sum hung sides v) (in_sum f (b + 1) sides v)
    (outflow (wires_by f (b + 1) hung) (map pos sides) v) (outflow_is f (b + 1) hung sides v (omega arith))

-- the sides that hang from a node, summed over two parts
pub out_sum-append : (hung more sides further : List ℕ) (v : ℕ) → length hung ≡ length sides
    → out_sum (hung ++ more) (sides ++ further) v ≡ out_sum hung sides v + out_sum more further v
out_sum-append [] more [] further v e = omega arith
out_sum-append [] more (s ∷ sides) further v e = absurd (omega arith)
out_sum-append (h ∷ hung) more [] further v e = absurd (omega arith)
out_sum-append (h ∷ hung) more (s ∷ sides) further v e = omega (arith, out_sum-append hung more sides further v (omega arith))

-- all that hang from it
pub out_sum-here : (sides : List ℕ) (v : ℕ) → out_sum (replicate (length sides) v) sides v ≡ total sides
out_sum-here [] v = refl
out_sum-here (s ∷ sides) v = omega (arith, same, out_sum-here sides v)
  where
    same : cond (nat_eq v v) s 0 ≡ s
    same = grind (arith, nat_tests)

-- from a node from which nothing hangs nothing flows out
pub out_sum-none : (hung sides : List ℕ) (v : ℕ) → times v hung ≡ 0 → out_sum hung sides v ≡ 0
out_sum-none [] sides v e = refl
out_sum-none (h ∷ hung) [] v e = refl
out_sum-none (h ∷ hung) (s ∷ sides) v e = omega (arith, other, out_sum-none hung sides v (omega arith))
  where
    first : ◌≡◌ {A = ℕ} (cond (nat_eq v h) 1 0) 0
    first = omega arith

    other : cond (nat_eq h v) s 0 ≡ 0
    other = grind (arith, nat_tests)

-- the sum of the sides, each as often as its number stands in the list
abbrev pub weighted : List ℕ → ℕ → List ℕ → ℕ
weighted [] b numbers = 0
weighted (s ∷ sides) b numbers = times b numbers * s + weighted sides (b + 1) numbers

-- the sides that end on a node, summed over the numbers of its list
pub in_is_weighted : (f : ℕ → ℕ) (b : ℕ) (sides : List ℕ) (v : ℕ) (numbers : List ℕ)
    → ((k : ℕ) → k < length sides → times (b + k) numbers ≡ cond (nat_eq (f (b + k)) v) 1 0) → in_sum f b sides v ≡ weighted sides b numbers
in_is_weighted f b [] v numbers each = refl
in_is_weighted f b (s ∷ sides) v numbers each =
    omega (
      arith,
      cond-as_product (nat_eq (f b) v) (times b numbers) s here,
      in_is_weighted f (b + 1) sides v numbers (λ k h. at (b + suc k) (b + 1 + k) (omega arith) (each (suc k) (omega arith))),
    )
  where
    at : (m n : ℕ) → m ≡ n → times m numbers ≡ cond (nat_eq (f m) v) 1 0 → times n numbers ≡ cond (nat_eq (f n) v) 1 0
    at m n e h = subst (λ (k : ℕ). times k numbers ≡ cond (nat_eq (f k) v) 1 0) e h

    here : times b numbers ≡ cond (nat_eq (f b) v) 1 0
    here = at (b + 0) b (omega arith) (each 0 (omega arith))

-- no numbers have the sum 0
pub weighted_nil : (sides : List ℕ) (b : ℕ) → weighted sides b [] ≡ 0
weighted_nil [] b = refl
weighted_nil (s ∷ sides) b = omega (arith, weighted_nil sides (b + 1))

weighted_cons : (sides : List ℕ) (b n : ℕ) (numbers : List ℕ) → weighted sides b (n ∷ numbers) ≡ weighted sides b (n ∷ []) + weighted sides b numbers
weighted_cons [] b n numbers = refl
weighted_cons (s ∷ sides) b n numbers = omega (arith, weighted_cons sides (b + 1) n numbers)

weighted_none : (sides : List ℕ) (b n : ℕ) → n < b → weighted sides b (n ∷ []) ≡ 0
weighted_none [] b n h = refl
weighted_none (s ∷ sides) b n h = omega (arith, ap (λ (m : ℕ). m * s) differ, weighted_none sides (b + 1) n (omega arith))
  where
    differ : ◌≡◌ {A = ℕ} (cond (nat_eq b n) 1 0) 0
    differ = grind (arith, nat_tests)

weighted_one : (sides : List ℕ) (b n k s : ℕ) → n ≡ b + k → slice_get sides k ≡ Some s → weighted sides b (n ∷ []) ≡ s
weighted_one [] b n k s e f = absurd (cc)
weighted_one (r ∷ sides) b n zero s e f = omega (arith, ap (λ (m : ℕ). m * r) same, weighted_none sides (b + 1) n (omega arith), is)
  where
    same : ◌≡◌ {A = ℕ} (cond (nat_eq b n) 1 0) 1
    same = grind (arith, nat_tests)

    is : r ≡ s
    is = cc
weighted_one (r ∷ sides) b n (suc k) s e f = omega (arith, ap (λ (m : ℕ). m * r) differ, weighted_one sides (b + 1) n k s (omega arith) f)
  where
    differ : ◌≡◌ {A = ℕ} (cond (nat_eq b n) 1 0) 0
    differ = grind (arith, nat_tests)

-- a span is as wide as its sides sum to, where these are the sides of the laid squares
pub span_sum_of : (laid : List Square) (sides : List ℕ) → ((k : ℕ) (q : Square) → slice_get laid k ≡ Some q → slice_get sides k ≡ Some q.s)
    → (level x : ℕ) (numbers : List ℕ) (end : ℕ) → Span laid level x numbers end → x + weighted sides 1 numbers ≡ end
span_sum_of laid sides of level x [] end span = omega (arith, span, weighted_nil sides 1)
span_sum_of laid sides of level x (n ∷ numbers) end (q, at, place, bottom, rest) = omega (
  arith,
  weighted_cons sides 1 n numbers,
  weighted_one sides 1 n at.0 q.s (omega (arith, at.1)) (of at.0 q at.2),
  span_sum_of laid sides of level (x + q.s) numbers end rest,
)

-- the side of the square at a place
pub get_side : (laid : List Square) (k : ℕ) (q : Square) → slice_get laid k ≡ Some q → slice_get (map (λ q. q.s) laid) k ≡ Some q.s
get_side [] k q e = absurd (cc)
get_side (r ∷ laid) zero q e = let same : r ≡ q = cc in ap (λ (p : Square). Some p.s) same
get_side (r ∷ laid) (suc k) q e = get_side laid k q e

-- squares side by side end where their sides sum to
pub span_sum : (laid : List Square) (level x : ℕ) (numbers : List ℕ) (end : ℕ) → Span laid level x numbers end
    → x + weighted (map (λ q. q.s) laid) 1 numbers ≡ end
span_sum laid level x numbers end span = span_sum_of laid (map (λ q. q.s) laid) (get_side laid) level x numbers end span
