-- Sums over the numbers below one, and of spans of numbers that count the same.
use Rattle.std.specs.Prelude.{nat_le, nat_lt, ◌&&◌, ◌*◌}
use Rattle.std.proofs.Common.{Bool, ap, arith, cond, false, inl, inr, min, refl, suc, true, zero, ℕ, ◌+◌, ◌-◌, ◌<◌, ◌∙◌, ◌≡◌, ◌≤◌, ◌⊎◌}
use Rattle.std.proofs.lemmas.Bool.{cases_lt}
use Rattle.std.proofs.lemmas.Bool.Decides.{nat_tests}
use Rattle.std.proofs.lemmas.Grind.{common_steps}

-- the sum of f over the numbers below n
abbrev pub sum_below : (ℕ → ℕ) → ℕ → ℕ
sum_below f zero = 0
sum_below f (suc n) = sum_below f n + f n

-- functions that agree have one sum
pub sum_below-same_terms : (f g : ℕ → ℕ) (n : ℕ) → ((i : ℕ) → f i ≡ g i) → sum_below f n ≡ sum_below g n
sum_below-same_terms f g zero same = refl
sum_below-same_terms f g (suc n) same = omega (arith, sum_below-same_terms f g n same, same n)

-- the sum of sums is the sum of both
pub sum_below-add : (f g : ℕ → ℕ) (n : ℕ) → sum_below (λ i. f i + g i) n ≡ sum_below f n + sum_below g n
sum_below-add f g zero = refl
sum_below-add f g (suc n) = omega (arith, sum_below-add f g n)

-- a sum of zeros is 0
pub sum_below-zero_terms : (f : ℕ → ℕ) (n : ℕ) → ((i : ℕ) → f i ≡ 0) → sum_below f n ≡ 0
sum_below-zero_terms f zero none = refl
sum_below-zero_terms f (suc n) none = omega (arith, sum_below-zero_terms f n none, none n)

-- where each value is at most b, the sum below n is at most n times b
pub sum_below-le_times : (f : ℕ → ℕ) (b n : ℕ) → ((i : ℕ) → f i ≤ b) → sum_below f n ≤ n * b
sum_below-le_times f b zero most = omega arith
sum_below-le_times f b (suc n) most = omega (arith, sum_below-le_times f b n most, most n)

-- where each value is at most b and the sum below n is n times b, each value below n is b
pub sum_below-full : (f : ℕ → ℕ) (b n : ℕ) → ((i : ℕ) → f i ≤ b) → sum_below f n ≡ n * b → (i : ℕ) → i < n → f i ≡ b
sum_below-full f b zero most full i low = absurd (omega arith)
sum_below-full f b (suc n) most full i low =
    cases (cases_lt i n) (sum_below-full f b n most (omega (arith, full, sum_below-le_times f b n most, most n)) i)
  where
    cases : (i < n) ⊎ (n ≤ i) → (i < n → f i ≡ b) → f i ≡ b
    cases (inl h) rest = rest h
    cases (inr h) rest = let last : i ≡ n = omega arith in ap f last ∙ omega (arith, full, sum_below-le_times f b n most, most n)

-- where each value below n is positive, the sum is at least n
pub sum_below-ge_count : (f : ℕ → ℕ) (n : ℕ) → ((i : ℕ) → i < n → 0 < f i) → n ≤ sum_below f n
sum_below-ge_count f zero h = omega arith
sum_below-ge_count f (suc n) h = omega (arith, sum_below-ge_count f n (λ i l. h i (omega arith)), h n (omega arith))

-- ---- spans of numbers

-- whether a number is one of s from a on
abbrev pub spans : ℕ → ℕ → ℕ → Bool
spans a s i = nat_le a i && nat_lt i (a + s)

-- a span has as many numbers below n as lie between the lesser ones of n and its ends
pub sum_below-span_and_min : (a s n : ℕ) → sum_below (λ i. cond {A = ℕ} (spans a s i) 1 0) n + min n a ≡ min n (a + s)
sum_below-span_and_min a s zero = omega arith
sum_below-span_and_min a s (suc n) = grind (arith, sum_below-span_and_min a s n, common_steps)

-- a span of s numbers from a on, each of which counts k
module _ (a s k : ℕ) where
  abbrev counted : ℕ → ℕ
  counted i = cond (spans a s i) k 0

  in_span : (i : ℕ) → a ≤ i → i < a + s → counted i ≡ k
  in_span i left right = let e : spans a s i ≡ true = grind (arith, nat_tests) in ap (λ (b : Bool). cond {A = ℕ} b k 0) e

  out_span : (i : ℕ) → (i < a) ⊎ (a + s ≤ i) → counted i ≡ 0
  out_span i (inl h) = let e : spans a s i ≡ false = grind (arith, nat_tests) in ap (λ (b : Bool). cond {A = ℕ} b k 0) e
  out_span i (inr h) = let e : spans a s i ≡ false = grind (arith, nat_tests) in ap (λ (b : Bool). cond {A = ℕ} b k 0) e

  before : (n : ℕ) → n ≤ a → sum_below counted n ≡ 0
  before zero h = refl
  before (suc n) h = omega (arith, before n (omega arith), out_span n (inl (omega arith)))

  inside : (d : ℕ) → d ≤ s → sum_below counted (a + d) ≡ d * k
  inside zero h = let e : a + 0 ≡ a = omega arith in ap (sum_below counted) e ∙ before a (omega arith) ∙ omega arith
  inside (suc d) h =
      let e : a + suc d ≡ suc (a + d) = omega arith in
      ap (sum_below counted) e ∙ omega (arith, inside d (omega arith), in_span (a + d) (omega arith) (omega arith))

  behind : (d : ℕ) → sum_below counted (a + s + d) ≡ s * k
  behind zero = let e : a + s + 0 ≡ a + s = omega arith in ap (sum_below counted) e ∙ inside s (omega arith)
  behind (suc d) =
      let e : a + s + suc d ≡ suc (a + s + d) = omega arith in
      ap (sum_below counted) e ∙ omega (arith, behind d, out_span (a + s + d) (inr (omega arith)))

  -- where the numbers of a span count k each, and no others count, the sum below a number behind it is s times k
  pub sum_below-span : (n : ℕ) → a + s ≤ n → sum_below counted n ≡ s * k
  sum_below-span n h = let e : n ≡ a + s + (n - (a + s)) = omega arith in ap (sum_below counted) e ∙ behind (n - (a + s))
