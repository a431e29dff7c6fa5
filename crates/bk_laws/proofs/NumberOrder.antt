-- How numbers compare: the cases of their order, and the greater and the less of two.
use Rattle.std.specs.Prelude.{int_div, pos}
use Rattle.std.proofs.Common.{ap, arith, inl, inr, max, min, refl, subst, suc, zero, ℕ, ◌+◌, ◌/◌, ◌<◌, ◌≡◌, ◌≢◌, ◌≤◌, ◌⊎◌}
use Rattle.std.proofs.lemmas.Bool.{cases_lt}

-- of two numbers the first is at most the second, or above it
pub le_or_gt : (a b : ℕ) → (a ≤ b) ⊎ (b < a)
le_or_gt a b = grind arith

-- a number is positive or not
pub positive_or_not : (k : ℕ) → (0 < k) ⊎ (0 < k → ⊥)
positive_or_not zero = inr (λ h. omega (arith, h))
positive_or_not (suc k) = inl (omega arith)

-- two numbers compare in one of three ways: less, the same, greater
pub lt_or_eq_or_gt : (x y : ℕ) → (x < y) ⊎ ((x ≡ y) ⊎ (y < x))
lt_or_eq_or_gt x y = grind arith

-- of two numbers the first is at most the second or not
pub le_or_not : (k n : ℕ) → (k ≤ n) ⊎ (k ≤ n → ⊥)
le_or_not k n = by (lt_or_eq_or_gt k n)
  where
    by : (k < n) ⊎ ((k ≡ n) ⊎ (n < k)) → (k ≤ n) ⊎ (k ≤ n → ⊥)
    by (inl h) = inl (omega (arith, h))
    by (inr (inl e)) = inl (omega (arith, e))
    by (inr (inr h)) = inr (λ e. omega (arith, h, e))

-- two numbers whose successors are one number are the same
pub suc-injective_of_same : (j k n : ℕ) → n ≡ suc j → n ≡ suc k → j ≡ k
suc-injective_of_same j k n e f = omega arith

-- a number up to a successor is that successor, or at most the one before
pub le_suc-last_or_less : (k n : ℕ) → k ≤ suc n → (k ≡ suc n) ⊎ (k ≤ n)
le_suc-last_or_less k n h = grind arith

-- a number of at most 0 is 0
pub le_zero-is_zero : (k : ℕ) → k ≤ 0 → k ≡ 0
le_zero-is_zero k h = omega arith

-- a number that isn't 0 as an integer is positive
pub positive_of_not_zero : (n : ℕ) → (pos n ≡ pos 0 → ⊥) → 0 < n
positive_of_not_zero zero other = absurd (other refl)
positive_of_not_zero (suc n) other = omega arith

-- 0 divided by a number is 0
pub zero_divided : (g : ℕ) → int_div (pos 0) (pos g) ≡ pos 0
zero_divided g = ap pos (nought g)
  where
    nought : (g : ℕ) → 0 / g ≡ 0
    nought g = omega arith

-- a number below another and one is below it, or the same
pub lt_add_one-less_or_same : (count next : ℕ) → count < next + 1 → (count < next) ⊎ (count ≡ next)
lt_add_one-less_or_same count next h = grind arith

-- of two numbers in order, the second is the greater and the first the less
pub max_min-of_le : (a b : ℕ) → a ≤ b → (max a b ≡ b) × (min a b ≡ a)
max_min-of_le a b h = (grind arith, grind arith)

-- the greater of two numbers is that of two equal ones in the other order
pub max-of_swapped : (a b c d : ℕ) → c ≡ b → d ≡ a → max c d ≡ max a b
max-of_swapped a b c d e f = grind arith

-- the less of two numbers is that of two equal ones in the other order
pub min-of_swapped : (a b c d : ℕ) → c ≡ b → d ≡ a → min c d ≡ min a b
min-of_swapped a b c d e f = grind arith

-- the greater of two numbers is that of two equal ones
pub max-of_equal : (a b c d : ℕ) → c ≡ a → d ≡ b → max c d ≡ max a b
max-of_equal a b c d e f = grind arith

-- the less of two numbers is that of two equal ones
pub min-of_equal : (a b c d : ℕ) → c ≡ a → d ≡ b → min c d ≡ min a b
min-of_equal a b c d e f = grind arith

-- two numbers compare in one of three ways: less, greater, the same
pub lt_or_gt_or_eq : (a b : ℕ) → (a < b) ⊎ ((b < a) ⊎ (a ≡ b))
lt_or_gt_or_eq a b = grind arith

-- two numbers are in order, one way round or the other
pub le_or_ge : (a b : ℕ) → (a ≤ b) ⊎ (b ≤ a)
le_or_ge a b = grind arith

-- the greatest of three numbers, the first two exchanged
pub max-left_comm : (a b c : ℕ) → max a (max b c) ≡ max b (max a c)
max-left_comm a b c = grind arith

-- a number is 0 or positive
pub zero_or_positive : (n : ℕ) → (n ≡ 0) ⊎ (0 < n)
zero_or_positive n = grind arith

-- a number is above 1 or not
pub above_one_or_not : (n : ℕ) → (1 < n) ⊎ (1 < n → ⊥)
above_one_or_not n = grind arith

-- no three numbers are two
pub three_numbers-not_two : (a b : ℕ) → (0 ≡ a) ⊎ (0 ≡ b) → (1 ≡ a) ⊎ (1 ≡ b) → (2 ≡ a) ⊎ (2 ≡ b) → ⊥
three_numbers-not_two a b (inl e) (inl f) g = omega (arith, e, f)
three_numbers-not_two a b (inl e) (inr f) (inl g) = omega (arith, e, g)
three_numbers-not_two a b (inl e) (inr f) (inr g) = omega (arith, f, g)
three_numbers-not_two a b (inr e) (inr f) g = omega (arith, e, f)
three_numbers-not_two a b (inr e) (inl f) (inl g) = omega (arith, f, g)
three_numbers-not_two a b (inr e) (inl f) (inr g) = omega (arith, e, g)

-- of two numbers in order, they are the same or the first is less
pub le-same_or_less : (v b : ℕ) → v ≤ b → (v ≡ b) ⊎ (v < b)
le-same_or_less v b h = grind arith

-- two intervals that meet have a number in common
pub meeting_intervals-common : (a b c d : ℕ) → a < b → c < d → a < d → c < b → (l : ℕ) × (a ≤ l) × (l < b) × (c ≤ l) × (l < d)
meeting_intervals-common a b c d h k m n = cases (cases_lt a c)
  where
    cases : (a < c) ⊎ (c ≤ a) → (l : ℕ) × (a ≤ l) × (l < b) × (c ≤ l) × (l < d)
    cases (inl e) = (c, omega arith, n, omega arith, k)
    cases (inr e) = (a, omega arith, h, e, m)

-- of counts that exclude one another, at most one counts
pub one_of_four-at_most_one : (ca cb w h : ℕ) → ca ≤ 1 → cb ≤ 1 → w + h ≤ 1 → (0 < ca → 0 < cb → ⊥) → (0 < ca → 0 < w + h → ⊥) → (0 < cb → 0 < w + h → ⊥) →
    (ca + cb) + (w + h) ≤ 1
one_of_four-at_most_one ca cb w h a b s apart first second = elim (cases_lt 0 ca) [
  | inl p ↦ elim (cases_lt 0 cb) [
    | inl q ↦ absurd (apart p q)
    | inr q ↦ elim (cases_lt 0 (w + h)) [ inl r ↦ absurd (first p r) | inr r ↦ omega (arith, a, q, r) ]
  ]
  | inr p ↦ elim (cases_lt 0 cb) [
    | inl q ↦ elim (cases_lt 0 (w + h)) [ inl r ↦ absurd (second q r) | inr r ↦ omega (arith, b, p, r) ]
    | inr q ↦ omega (arith, s, p, q)
  ]
]

-- a number less than another differs from it
pub lt-differs : (a b : ℕ) → a < b → a ≢ b
lt-differs a b h e = absurd (omega arith)

-- what holds of a pair holds if the second is taken of an equal number
pub holds-of_equal_second : (P : ℕ × ℕ → Type 0) (f : ℕ → ℕ) (x b c : ℕ) → b ≡ c → P (x, f b) → P (x, f c)
holds-of_equal_second P f x b c e p = subst (λ (n : ℕ). P (x, f n)) e p
