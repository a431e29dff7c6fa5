-- Tests that count: 1 where they pass, 0 where they fail.
use Rattle.std.specs.Prelude.{◌/◌}
use Rattle.std.proofs.Common.{Bool, ap, arith, cond, false, nat_eq, nat_le, nat_lt, not, refl, suc, true, zero, ℕ, ◌&&◌, ◌*◌, ◌+◌, ◌-◌, ◌<◌, ◌==◌}
use Rattle.std.proofs.Common.{◌≡◌, ◌≢◌, ◌≤◌, ◌⊎◌}
use Rattle.std.proofs.lemmas.Bool.Decides.{nat_tests}

-- a test counts at most 1
pub cond_count-le_one : (a : Bool) → ◌≤◌ (cond {A = ℕ} a 1 0) 1
cond_count-le_one true = omega arith
cond_count-le_one false = omega arith

-- a test that passes only where another does counts no more
pub cond_count-le_of_implies : (a b : Bool) → (a ≡ true → b ≡ true) → ◌≤◌ (cond {A = ℕ} a 1 0) (cond {A = ℕ} b 1 0)
cond_count-le_of_implies false b f = omega arith
cond_count-le_of_implies true b f = omega (arith, ap (λ (c : Bool). cond {A = ℕ} c 1 0) (f refl))

-- a number is in a range if it is the first or lies behind it
pub cond_count-range_from : (a n x : ℕ) → 0 < n → ◌≡◌ {A = ℕ} (cond (nat_le a x && nat_lt x (a + n)) 1 0)
    (cond (x == a) 1 0 + cond (nat_lt a x && nat_lt x (a + n)) 1 0)
cond_count-range_from a n x some = grind (arith, nat_tests)

-- the number before one is in a range if that one is its end or lies behind the first
pub cond_count-range_to : (a n x : ℕ) → 0 < n → 0 < x → ◌≡◌ {A = ℕ} (cond (nat_le a (x - 1) && nat_lt (x - 1) (a + n)) 1 0)
    (cond (x == a + n) 1 0 + cond (nat_lt a x && nat_lt x (a + n)) 1 0)
cond_count-range_to a n x some more = grind (arith, nat_tests)

-- two tests together count the product of what each counts
pub cond_count-and : (a b : Bool) → ◌≡◌ {A = ℕ} (cond (a && b) 1 0) (cond a 1 0 * cond b 1 0)
cond_count-and true true = refl
cond_count-and true false = refl
cond_count-and false true = refl
cond_count-and false false = refl

-- two tests that each count as two others do together count as the four pairs
pub cond_count-and_of_sums : (p a b r c d : Bool) → ◌≡◌ {A = ℕ} (cond p 1 0) (cond a 1 0 + cond b 1 0) → ◌≡◌ {A = ℕ} (cond r 1 0) (cond c 1 0 + cond d 1 0)
    → ◌≡◌ {A = ℕ} (cond (p && r) 1 0) (cond (a && c) 1 0 + cond (a && d) 1 0 + cond (b && c) 1 0 + cond (b && d) 1 0)
cond_count-and_of_sums p a b r c d e f =
    omega (arith, cond_count-and p r, cond_count-and a c, cond_count-and a d, cond_count-and b c, cond_count-and b d, times)
  where
    times : cond {A = ℕ} p 1 0 * cond {A = ℕ} r 1 0 ≡ (cond {A = ℕ} a 1 0 + cond {A = ℕ} b 1 0) * (cond {A = ℕ} c 1 0 + cond {A = ℕ} d 1 0)
    times = λ i. e i * f i

-- a number that isn't 4 doesn't count as 4
pub cond_count-not_four : (n : ℕ) → n ≢ 4 → ◌≡◌ {A = ℕ} (cond (n == 4) 1 0) 0
cond_count-not_four n h = grind (arith, nat_tests)

-- a number of 2, and twice one of at most 1, counts as 4 if that one is 1
pub cond_count-four : (n k : ℕ) → n ≡ 2 + k + k → k ≤ 1 → ◌≡◌ {A = ℕ} (cond (n == 4) 1 0) k
cond_count-four n zero e h = cond_count-not_four n (λ f. omega arith)
cond_count-four n (suc zero) e h = grind (arith, nat_tests)
cond_count-four n (suc (suc k)) e h = absurd (omega arith)

-- two numbers of which one is positive aren't both 0
pub cond_count-not_origin : (x y : ℕ) → 0 < x + y → ◌≡◌ {A = ℕ} (cond ((x == 0) && (y == 0)) 1 0) 0
cond_count-not_origin x y h = grind (arith, nat_tests)

-- what the numbers below one more count, after one number was renamed
pub cond_count-renamed_step : (x a b n p q : ℕ) → p ≤ q + cond {A = ℕ} (nat_lt a n) 1 0
    → cond {A = ℕ} (x == n) 1 0 + p ≤ cond {A = ℕ} (cond (x == a) b x == n) 1 0 + q + cond {A = ℕ} (nat_lt a (suc n)) 1 0
cond_count-renamed_step x a b n p q h = grind (arith, nat_tests)

-- a test that one number is less than another counts at most 1
pub cond_count-nat_lt_le_one : (a n : ℕ) → cond {A = ℕ} (nat_lt a n) 1 0 ≤ 1
cond_count-nat_lt_le_one a n = grind (arith, nat_tests)

-- twice the half of a number, rounded by a test that fails, is at least the number
pub half_or_more-twice : (n a b : ℕ) → b ≤ a → n ≤ 2 * cond (nat_lt a b) (n / 2) ((n + 1) / 2)
half_or_more-twice n a b h = grind (arith, nat_tests)

-- twice the half of a number, rounded by a test that passes, and one, is at least the number
pub half_or_less-twice : (n a b : ℕ) → a < b → n ≤ 2 * cond (nat_lt a b) (n / 2) ((n + 1) / 2) + 1
half_or_less-twice n a b h = grind (arith, nat_tests)

-- the test of two equal numbers counts 1
pub cond_count-nat_eq_same : (m n : ℕ) → m ≡ n → ◌≡◌ {A = ℕ} (cond (nat_eq m n) 1 0) 1
cond_count-nat_eq_same m n e = grind (arith, nat_tests)

-- the test of two numbers that differ counts 0
pub cond_count-nat_eq_other : (m n : ℕ) → (m ≡ n → ⊥) → ◌≡◌ {A = ℕ} (cond (nat_eq m n) 1 0) 0
cond_count-nat_eq_other m n e = grind (arith, nat_tests)

-- a number that counts where two numbers are equal counts if they are
pub cond-of_equal : (x y c : ℕ) → x ≡ y → ◌≡◌ {A = ℕ} (cond (x == y) c 0) c
cond-of_equal x y c e = grind (arith, nat_tests)

-- a number that counts where two numbers are equal counts 0 if they differ
pub cond-of_different : (x y c : ℕ) → (x ≡ y → ⊥) → ◌≡◌ {A = ℕ} (cond (x == y) c 0) 0
cond-of_different x y c e = grind (arith, nat_tests)

-- a first number, or what counts on behind it, told by one test
pub cond-first_or_rest : (b : Bool) (j n : ℕ) → ◌≡◌ {A = ℕ} (cond b j (suc j + n)) (j + cond (not b) (1 + n) 0)
cond-first_or_rest true j n = omega arith
cond-first_or_rest false j n = omega arith

-- two numbers that are equal where a test passes count alike under the test
pub cond-open_end : (b : Bool) (m n : ℕ) → (b ≡ true → m ≡ n) → ◌≡◌ {A = ℕ} (cond b (1 + m) 0) (cond b (1 + n) 0)
cond-open_end true m n e = let f : m ≡ n = e refl in omega arith
cond-open_end false m n e = refl

-- a test that passes counts 1
pub cond_count-of_true : (b : Bool) → b ≡ true → ◌≡◌ {A = ℕ} (cond b 1 0) 1
cond_count-of_true b e = ap (λ (c : Bool). cond {A = ℕ} c 1 0) e

-- a test that fails counts 0
pub cond_count-of_false : (b : Bool) → b ≡ false → ◌≡◌ {A = ℕ} (cond b 1 0) 0
cond_count-of_false b e = ap (λ (c : Bool). cond {A = ℕ} c 1 0) e

-- a number under a test is the number times what the test counts
pub cond-as_product : (b : Bool) (n s : ℕ) → n ≡ cond b 1 0 → cond b s 0 ≡ n * s
cond-as_product true n s e = omega (arith, ap (λ (m : ℕ). m * s) e)
cond-as_product false n s e = omega (arith, ap (λ (m : ℕ). m * s) e)

-- two numbers are the same, or one doesn't count for the other
pub nat_eq-same_or_no_count : (j x : ℕ) → (x ≡ j) ⊎ ◌≡◌ {A = ℕ} (cond (nat_eq j x) 1 0) 0
nat_eq-same_or_no_count j x = grind (arith, nat_tests)

-- numbers that are counted as equal are equal
pub nat_eq-same_if_counted : (a b : ℕ) → 0 < cond (nat_eq a b) 1 0 → a ≡ b
nat_eq-same_if_counted a b h = grind (arith, nat_tests)
