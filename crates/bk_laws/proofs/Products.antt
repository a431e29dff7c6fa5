-- Products of whole numbers by a common factor, by their order.
use Rattle.std.proofs.Common.{ap, arith, inl, inr, ℕ, ◌*◌, ◌<◌, ◌≡◌, ◌≤◌, ◌⊎◌}
use Rattle.std.proofs.Math.Nat.{mul-lt-mul_of_pos_left}
use Rattle.std.proofs.lemmas.Bool.{cases_order, eq-eqb, eqb-true}
use Rattle.std.specs.Cmp.{both_ways}
use Rattle.std.specs.Prelude.{◌==◌}
use Rattle.bk_laws.proofs.NumberOrder.{le_or_gt}

-- a positive factor keeps the order: std's law with its numbers written out
pub mul_below : (k m n : ℕ) → 0 < k → m < n → k * m < k * n
mul_below k m n h l = mul-lt-mul_of_pos_left l h

-- a positive factor is cancelled from an equation
pub mul_one : (k m n : ℕ) → 0 < k → k * m ≡ k * n → m ≡ n
mul_one k m n h e = cases (cases_order m n)
  where
    cases : (m ≡ n) ⊎ (m < n) ⊎ (n < m) → m ≡ n
    cases (inl same) = same
    cases (inr (inl l)) = absurd (omega (arith, e, mul_below k m n h l))
    cases (inr (inr l)) = absurd (omega (arith, e, mul_below k n m h l))

-- a positive factor is cancelled from an order
pub mul_not_below : (k m n : ℕ) → k * m ≤ k * n → 0 < k → m ≤ n
mul_not_below k m n e h = cases (le_or_gt m n)
  where
    cases : (m ≤ n) ⊎ (n < m) → m ≤ n
    cases (inl a) = a
    cases (inr a) = absurd (omega (arith, e, mul_below k n m h a))

-- a test of equality of two multiples by a positive number is that of the numbers
pub eq_test-of_multiples : (k a b : ℕ) → 0 < k → (k * a == k * b) ≡ (a == b)
eq_test-of_multiples k a b some = both_ways (k * a == k * b) (a == b)
    (λ e. eq-eqb a b (mul_one k a b some (eqb-true (k * a) (k * b) e))) (λ e. eq-eqb (k * a) (k * b) (ap (λ (n : ℕ). k * n) (eqb-true a b e)))
