-- Squares in the order of a code: putting them in order keeps each, and changes nothing where they stand so.
use Rattle.std.specs.List.{AllByRecursion}
use Rattle.std.specs.Prelude.{Bool, IsTrue, List, [], cond, count_by, false, length, nat_lt, refl, suc, true, ◌<◌, ◌==◌, ◌∷◌, ◌≡◌, ◌⊎◌}
use Rattle.std.proofs.Common.{ap, arith, eqb-true, inl, inr, ltb-true, sum_by, ℕ, ◌+◌, ◌∙◌, ◌≤◌}
use Rattle.std.proofs.lemmas.Bool.{and_from, and_parts, eq-eqb, lt-ltb, or_cases, or_left, or_right}
use Rattle.std.proofs.lemmas.Bool.Decides.{nat_tests}
use Rattle.std.proofs.lemmas.List.Sums.{sum_by-cons}
use Rattle.std.specs.Ordering.{is_lt, nat_cmp, ordering_then}
use Rattle.bk_tiling.specs.CodeOrder.{InCodeOrder, comes_before, in_code_order, with_square}
use Rattle.bk_tiling.specs.declared.Square.{Square}

-- a square stands before another by its level, or at one level by its column
pub comes_before-cases : (p q : Square) → IsTrue (comes_before p q) → (p.y < q.y) ⊎ ((p.y ≡ q.y) × (p.x < q.x))
comes_before-cases p q h = elim (or_cases _ _ h) [
  | inl above ↦ inl (ltb-true p.y q.y above)
  | inr level ↦ let parts = and_parts (p.y == q.y) (nat_lt p.x q.x) level in inr (eqb-true p.y q.y parts.0, ltb-true p.x q.x parts.1)
]

with_square-first : (q : Square) (qs : List Square) → AllByRecursion (λ p. IsTrue (comes_before q p)) qs → with_square q qs ≡ q ∷ qs
with_square-first q [] h = refl
with_square-first q (p ∷ qs) h = ap (λ b. cond b (q ∷ p ∷ qs) (p ∷ with_square q qs)) h.0

-- squares in code order stay as they are
pub in_code_order-same : (qs : List Square) → InCodeOrder qs → in_code_order qs ≡ qs
in_code_order-same [] h = refl
in_code_order-same (q ∷ qs) h = ap (with_square q) (in_code_order-same qs h.1) ∙ with_square-first q qs h.0

-- a fact of all squares is one of the squares put in order
with_square-all : (P : Square → Type 0) (q : Square) (qs : List Square) → P q → AllByRecursion P qs → AllByRecursion P (with_square q qs)
with_square-all P q [] one all = (one, tt)
with_square-all P q (p ∷ qs) one all =
    elim (comes_before q p) as (λ b. AllByRecursion P (cond b (q ∷ p ∷ qs) (p ∷ with_square q qs))) [
      | true ↦ (one, all)
      | false ↦ (all.0, with_square-all P q qs one all.1)
    ]

-- what holds of all squares holds of them put in order
pub in_code_order-all : (P : Square → Type 0) (qs : List Square) → AllByRecursion P qs → AllByRecursion P (in_code_order qs)
in_code_order-all P [] all = tt
in_code_order-all P (q ∷ qs) all = with_square-all P q (in_code_order qs) all.0 (in_code_order-all P qs all.1)

-- a square before a second one that is before a third is before the third
pub comes_before-trans : (p q r : Square) → IsTrue (comes_before p q) → IsTrue (comes_before q r) → IsTrue (comes_before p r)
comes_before-trans p q r h k = elim (comes_before-cases p q h) [
  | inl above ↦ elim (comes_before-cases q r k) [
    | inl more ↦ or_left _ _ (lt-ltb p.y r.y (omega arith))
    | inr level ↦ or_left _ _ (lt-ltb p.y r.y (omega (arith, level.0)))
  ]
  | inr level ↦ elim (comes_before-cases q r k) [
    | inl more ↦ or_left _ _ (lt-ltb p.y r.y (omega (arith, level.0)))
    | inr also ↦ or_right _ _ (and_from _ _ (eq-eqb p.y r.y (omega (arith, level.0, also.0))) (lt-ltb p.x r.x (omega (arith, level.1, also.1))))
  ]
]

-- two squares at different places
abbrev pub AreApart : Square → Square → Type 0
AreApart p q = IsTrue (comes_before p q) ⊎ IsTrue (comes_before q p)

-- each square stands in it as often as before
with_square-count : (c : Square → Bool) (q : Square) (qs : List Square) → count_by c (with_square q qs) ≡ count_by c (q ∷ qs)
with_square-count c q [] = refl
with_square-count c q (p ∷ qs) =
    elim (comes_before q p) as (λ b. count_by c (cond b (q ∷ p ∷ qs) (p ∷ with_square q qs)) ≡ count_by c (q ∷ p ∷ qs)) [
      | true ↦ refl
      | false ↦ omega (
        arith,
        sum_by-cons (λ r. cond (c r) 1 0) p (with_square q qs),
        with_square-count c q qs,
        sum_by-cons (λ r. cond (c r) 1 0) q qs,
        sum_by-cons (λ r. cond (c r) 1 0) q (p ∷ qs),
        sum_by-cons (λ r. cond (c r) 1 0) p qs,
      )
    ]

-- putting squares in order keeps how many pass a test
pub in_code_order-count : (c : Square → Bool) (qs : List Square) → count_by c (in_code_order qs) ≡ count_by c qs
in_code_order-count c [] = refl
in_code_order-count c (q ∷ qs) = omega (
  arith,
  with_square-count c q (in_code_order qs),
  in_code_order-count c qs,
  sum_by-cons (λ r. cond (c r) 1 0) q (in_code_order qs),
  sum_by-cons (λ r. cond (c r) 1 0) q qs,
)

-- squares put in order are as many
with_square-length : (q : Square) (qs : List Square) → length (with_square q qs) ≡ suc (length qs)
with_square-length q [] = refl
with_square-length q (p ∷ qs) =
    elim (comes_before q p) as (λ b. length (cond b (q ∷ p ∷ qs) (p ∷ with_square q qs)) ≡ suc (length (p ∷ qs))) [
      | true ↦ refl
      | false ↦ ap suc (with_square-length q qs)
    ]

-- squares put in order are as many
pub in_code_order-length : (qs : List Square) → length (in_code_order qs) ≡ length qs
in_code_order-length [] = refl
in_code_order-length (q ∷ qs) = with_square-length q (in_code_order qs) ∙ ap suc (in_code_order-length qs)

-- to come before is to be less by the level and then by the column
pub before_by_rank : (p q : Square) → comes_before p q ≡ true → is_lt (ordering_then (nat_cmp p.y q.y) (nat_cmp p.x q.x)) ≡ true
before_by_rank p q e = grind (arith, nat_tests)

-- a square that comes before another has its top no lower
pub before_level : (q r : Square) → comes_before q r ≡ true → q.y ≤ r.y
before_level q r e = grind (arith, nat_tests)

-- sums over squares put in order, and over images
sum_with : (f : Square → ℕ) (q : Square) (squares : List Square) → sum_by f (with_square q squares) ≡ f q + sum_by f squares
sum_with f q [] = sum_by-cons f q []
sum_with f q (r ∷ squares) = cases (comes_before q r) (sum_with f q squares)
  where
    cases : (b : Bool) → sum_by f (with_square q squares) ≡ f q + sum_by f squares
        → sum_by f (cond b (q ∷ r ∷ squares) (r ∷ with_square q squares)) ≡ f q + sum_by f (r ∷ squares)
    cases true e = sum_by-cons f q (r ∷ squares)
    cases false e = omega (arith, sum_by-cons f r (with_square q squares), sum_by-cons f r squares, e)

-- putting squares in order keeps the sum of a number over them
pub sum_ordered : (f : Square → ℕ) (squares : List Square) → sum_by f (in_code_order squares) ≡ sum_by f squares
sum_ordered f [] = refl
sum_ordered f (q ∷ squares) = omega (arith, sum_with f q (in_code_order squares), sum_ordered f squares, sum_by-cons f q squares)
