-- Products, quotients and powers of numbers, by their order.
use Rattle.std.specs.Prelude.{◌/◌}
use Prim.Native.Nat.{◌∣◌}
use Rattle.std.proofs.Common.{ap, arith, inl, inr, subst, suc, sym, zero, ℕ, ◌%◌, ◌*◌, ◌+◌, ◌-◌, ◌<◌, ◌^◌, ◌∙◌, ◌≡◌, ◌≤◌, ◌⊎◌}
use Rattle.std.proofs.Math.Nat.{dvd-mul_left, dvd-mul_right, mod-lt, mul-div_cancel', mul-le-mul, mul-le-mul_left, mul-le-mul_right, mul-pos, one-le-pow}
use Rattle.std.proofs.Math.Nat.{pow-le-pow_right, pow-suc, pow-succ'}
use Rattle.std.proofs.lemmas.Bool.{cases_lt}
use Rattle.std.proofs.lemmas.Nat.{pow_below, pow_pos, shl_whole}
use Rattle.bk_laws.proofs.Powers.{power, power-cut}

-- four times a positive power of 3 is at most the power of 12
pub power-four_times_fits : (k : ℕ) → 0 < k → 4 * power 3 k ≤ power 12 k
power-four_times_fits zero some = absurd (omega arith)
power-four_times_fits (suc zero) some = omega arith
power-four_times_fits (suc (suc k)) some = omega (arith, power-four_times_fits (suc k) (omega arith))

-- where more of a number of factors are 3 and fewer 12, four times the product is at most what it was
pub power-falls_with_count : (n a b : ℕ) → a < b → b ≤ n → 4 * power 3 b * power 12 (n - b) ≤ power 3 a * power 12 (n - a)
power-falls_with_count n a b less within =
    let rest : (n - a) - (b - a) ≡ n - b = omega arith in
    let whole : power 12 (n - a) ≡ power 12 (b - a) * power 12 (n - b) = power-cut 12 (b - a) (n - a) (omega arith)
    ∙ ap (λ z. power 12 (b - a) * power 12 z) rest in
    let threes : power 3 b ≡ power 3 a * power 3 (b - a) = power-cut 3 a b (omega arith) in
    omega (
      arith,
      ap (λ z. power 3 a * z) whole,
      ap (λ z. 4 * z * power 12 (n - b)) threes,
      mul-le-mul_right {m = 4 * power 3 (b - a)} {n = power 12 (b - a)} (power 3 a * power 12 (n - b)) (power-four_times_fits (b - a) (omega arith)),
    )

-- a remainder by a successor is at most the number before
pub mod-suc_le : (x c : ℕ) → c % suc x ≤ x
mod-suc_le x c = omega (arith, mod-lt c {m = suc x} (omega arith))

-- a number divides its quotient by a common divisor times the other number
pub dvd-quotient_times : (m d g : ℕ) → g ∣ m → g ∣ d → m ∣ m / g * d
dvd-quotient_times m d g l r = subst (λ (n : ℕ). m ∣ n) (by g (m / g) (d / g) m d (mul-div_cancel' g l) (mul-div_cancel' g r)) (dvd-mul_right m (d / g))
  where
    by : (g x y m d : ℕ) → g * x ≡ m → g * y ≡ d → m * y ≡ x * d
    by g x y m d e f = ap (λ (k : ℕ). k * y) (sym e) ∙ omega arith ∙ ap (λ (k : ℕ). x * k) f

-- twice a number is at most its power of 2
pub double-le_power_of_two : (d : ℕ) → 2 * d ≤ 2 ^ d
double-le_power_of_two zero = omega arith
double-le_power_of_two (suc zero) = omega arith
double-le_power_of_two (suc (suc d)) = omega (arith, double-le_power_of_two (suc d), pow-suc 2 (suc d), more d)
  where
    more : (d : ℕ) → 2 ≤ 2 ^ suc d
    more d = omega (arith, pow-suc 2 d, pow_pos d)

-- twice a number, and another, is at most 2 to their sum
pub double_add-le_power_of_two : (d s : ℕ) → 2 * d + s ≤ 2 ^ (d + s)
double_add-le_power_of_two d zero = omega (arith, double-le_power_of_two d, ap (λ (m : ℕ). 2 ^ m) (none d))
  where
    none : (d : ℕ) → d + 0 ≡ d
    none d = omega arith
double_add-le_power_of_two d (suc s) = omega (arith, double_add-le_power_of_two d s, ap (λ (m : ℕ). 2 ^ m) (suc_out d s), pow-suc 2 (d + s), pow_pos (d + s))
  where
    suc_out : (d s : ℕ) → d + suc s ≡ suc (d + s)
    suc_out d s = omega arith

-- the product of two numbers below 2^63 is below 2^126
pub product-below_pow_126 : (m n : ℕ) → m < 2 ^ 63 → n < 2 ^ 63 → m * n < 2 ^ 126
product-below_pow_126 m n h k = let most : m * n ≤ (2 ^ 63 - 1) * (2 ^ 63 - 1) = mul-le-mul {n₁ = m} {m₁ = n} {n₂ = 2 ^ 63 - 1} {m₂ = 2 ^ 63 - 1}
    (omega arith) (omega arith) in omega arith

-- the product of two positive numbers is positive
pub product-positive : (a b : ℕ) → 0 < a → 0 < b → 0 < a * b
product-positive a b h k = mul-pos h k

-- a power of 4 is four times the one before
pub pow_four-suc : (room : ℕ) → 4 ^ (suc room) ≡ 4 * 4 ^ room
pow_four-suc room = pow-succ' 4 room

-- a number below 4 times another, and that once more, is at most four times it
pub digit_times-le_four_times : (d p : ℕ) → d < 4 → d * p + p ≤ 4 * p
digit_times-le_four_times d p h = let k : d + 1 ≤ 4 = omega arith in let l = mul-le-mul_right p k in omega (arith, l)

-- a power of 4 is positive
pub pow_four-positive : (n : ℕ) → 0 < 4 ^ n
pow_four-positive n = omega (arith, one-le-pow n 4 (omega arith))

-- an even power of 2 is a power of 4
pub pow_two-even_is_pow_four : (n : ℕ) → 2 ^ (2 * n) ≡ 4 ^ n
pow_two-even_is_pow_four zero = omega arith
pow_two-even_is_pow_four (suc n) =
    let e : 2 * suc n ≡ suc (suc (2 * n)) = omega arith in
    ap (λ k. 2 ^ k) e ∙ omega (arith, pow-succ' 2 (suc (2 * n)), pow-succ' 2 (2 * n), pow-succ' 4 n, pow_two-even_is_pow_four n)

-- a quotient by a divisor is a divisor
pub quotient-dvd : (g a : ℕ) → g ∣ a → a / g ∣ a
quotient-dvd g a d = subst (λ (n : ℕ). a / g ∣ n) (mul-div_cancel' g d) (dvd-mul_left (a / g) g)

-- a product of two multiples, the factors apart
pub product-split_straight : (g x h y p r : ℕ) → g * x ≡ p → h * y ≡ r → p * r ≡ g * h * (x * y)
product-split_straight g x h y p r e f = (λ i. sym e i * sym f i) ∙ omega arith

-- a product of two multiples, the factors taken crosswise
pub product-split_crossed : (h x g y q s : ℕ) → h * x ≡ q → g * y ≡ s → q * s ≡ g * h * (x * y)
product-split_crossed h x g y q s e f = (λ i. sym e i * sym f i) ∙ omega arith

-- a power of 2 below 2^32 is itself in 32 bits
pub pow_two-below_32 : (k : ℕ) → k < 32 → 1 * 2 ^ k % 2 ^ 32 ≡ 2 ^ k
pow_two-below_32 k low = shl_whole 1 1 k 32 (omega arith) (omega (arith, low)) ∙ omega arith

-- a greater exponent below 32 has no less a power of 2 in 32 bits
pub pow_two-rising : (from end : ℕ) → from ≤ end → end < 32 → 1 * 2 ^ from % 2 ^ 32 ≤ 1 * 2 ^ end % 2 ^ 32
pow_two-rising from end order low = cases (cases_lt from end)
  where
    cases : (from < end) ⊎ (end ≤ from) → 1 * 2 ^ from % 2 ^ 32 ≤ 1 * 2 ^ end % 2 ^ 32
    cases (inl h) = omega (arith, pow_below from end h, pow_two-below_32 from (omega (arith, low, order)), pow_two-below_32 end low)
    cases (inr h) = let same : from ≡ end = omega (arith, h, order) in omega (arith, ap (λ k. 1 * 2 ^ k % 2 ^ 32) same)

-- a value with one digit more, times a power, is at least the value times ten times it
pub tenfold-le : (v d p q n : ℕ) → q ≡ p * 10 → (v * 10 + d) * p ≤ n → v * q ≤ n
tenfold-le v d p q n e h = subst (λ (k : ℕ). v * k ≤ n) (sym e) (omega arith)

-- a number is at most its multiple by a positive one
pub le-positive_times : (d p : ℕ) → 0 < d → p ≤ d * p
le-positive_times zero p some = absurd (omega arith)
le-positive_times (suc d) p some = omega arith

-- a greater exponent has no less a power of 10
pub pow_ten-rising : (i j : ℕ) → i ≤ j → 10 ^ i ≤ 10 ^ j
pow_ten-rising i j h = pow-le-pow_right {n = 10} (omega arith) {i = i} {j = j} h

-- a product by a count with one more counted
pub product-step_one : (x y u m c : ℕ) → x ≡ c → y ≡ 1 → u ≡ m * c → x + u ≡ (y + m) * c
product-step_one x y u m c e f g = subst (λ (z : ℕ). x + u ≡ (z + m) * c) (sym f) (omega (arith, e, g))

-- a product by a count with none counted
pub product-step_none : (x y u m c : ℕ) → x ≡ 0 → y ≡ 0 → u ≡ m * c → x + u ≡ (y + m) * c
product-step_none x y u m c e f g = subst (λ (z : ℕ). x + u ≡ (z + m) * c) (sym f) (omega (arith, e, g))

-- a common factor of two numbers in order is taken off
pub lt-of_mul_lt : (k a b : ℕ) → k * a < k * b → a < b
lt-of_mul_lt k a b h = cases (cases_lt a b)
  where
    cases : (a < b) ⊎ (b ≤ a) → a < b
    cases (inl l) = l
    cases (inr l) = absurd (omega (arith, h, mul-le-mul_left k l))

-- what is left of a multiple of a whole, less multiples of its parts, is the multiple of what is left
pub mul-far_side : (k w x s : ℕ) → x + s ≤ w → k * w - k * x - k * s ≡ k * (w - x - s)
mul-far_side k w x s h =
    let rest : w ≡ x + s + (w - x - s) = omega arith in
    let all : k * w ≡ k * x + k * s + k * (w - x - s) = ap (λ n. k * n) rest ∙ omega arith in
    omega (arith, all)

-- a number of at most so many digits is at most the greatest, where as many nines are
pub lt_pow_ten-le_greatest : (greatest most' k n : ℕ) → 10 ^ most' ≤ greatest + 1 → k ≤ most' → n < 10 ^ k → n ≤ greatest
lt_pow_ten-le_greatest greatest most' k n bound few below = omega (arith, bound, below, pow_ten-rising k most' few)

-- a multiple of a multiple is the multiple by the product
pub mul-regroup : (m n x : ℕ) → m * (n * x) ≡ (m * n) * x
mul-regroup m n x = omega arith

-- one times a number is the number
pub one_times_number : (n : ℕ) → 1 * n ≡ n
one_times_number n = omega arith
