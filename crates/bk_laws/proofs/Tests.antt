-- Tests over all numbers below a number, and a test that is asked only where another passes.
use Rattle.std.proofs.Common.{Bool, ap, arith, cond, false, inl, inr, nat_eq, not, suc, true, zero, ℕ, ◌&&◌, ◌+◌, ◌<◌, ◌||◌, ◌∙◌, ◌≡◌, ◌⊎◌}
use Rattle.std.proofs.lemmas.Bool.{and_parts, false≢true}
use Rattle.std.proofs.lemmas.Bool.Decides.{nat_tests}
use Rattle.bk_laws.proofs.NumberOrder.{le-same_or_less}

-- the test passes at each number below n
abbrev pub all_below : (ℕ → Bool) → ℕ → Bool
all_below p zero = true
all_below p (suc n) = p n && all_below p n

-- a test that passes at all numbers below n passes at any of them
pub each_below : (p : ℕ → Bool) (n : ℕ) → all_below p n ≡ true → (c : ℕ) → c < n → p c ≡ true
each_below p zero e c h = absurd (omega arith)
each_below p (suc n) e c h = cases (le-same_or_less c n (omega arith)) (each_below p n parts.1)
  where
    parts : (p n ≡ true) × (all_below p n ≡ true)
    parts = and_parts (p n) (all_below p n) e

    cases : (c ≡ n) ⊎ (c < n) → ((c : ℕ) → c < n → p c ≡ true) → p c ≡ true
    cases (inl same) rest = ap p same ∙ parts.0
    cases (inr below) rest = rest c below

-- where the first test passes, the second was asked and passes
pub after_of : (a : Bool) (b : Bool) → not a || b ≡ true → a ≡ true → b ≡ true
after_of true b e f = e
after_of false b e f = absurd (false≢true f)

-- two numbers count as the same if their successors do
pub successors_count_alike : (a v : ℕ) → ◌≡◌ {A = ℕ} (cond (nat_eq (1 + a) (suc v)) 1 0) (cond (nat_eq a v) 1 0)
successors_count_alike a v = grind (arith, nat_tests)

-- 0 counts as no successor
pub zero_counts_for_no_successor : (v : ℕ) → ◌≡◌ {A = ℕ} (cond (nat_eq 0 (suc v)) 1 0) 0
zero_counts_for_no_successor v = grind (arith, nat_tests)

-- no successor counts as 0
pub no_successor_counts_for_zero : (a : ℕ) → ◌≡◌ {A = ℕ} (cond (nat_eq (1 + a) 0) 1 0) 0
no_successor_counts_for_zero a = grind (arith, nat_tests)
