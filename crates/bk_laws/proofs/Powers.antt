-- Powers of a whole number, by cases.
use Rattle.std.proofs.Common.{ap, arith, suc, zero, ℕ, ◌*◌, ◌+◌, ◌-◌, ◌<◌, ◌∙◌, ◌≡◌, ◌≤◌}
use Rattle.std.proofs.Math.Nat.{mul-le-mul_right}

-- the base taken so many times as a factor
abbrev pub power : ℕ → ℕ → ℕ
power base zero = 1
power base (suc k) = base * power base k

-- a positive base has positive powers
pub some_power : (base k : ℕ) → 0 < base → 0 < power base k
some_power base zero some = omega arith
some_power base (suc k) some = omega (arith, some_power base k some, mul-le-mul_right {m = 1} {n = base} (power base k) some)

-- exponents add
pub power-add : (base a b : ℕ) → power base (a + b) ≡ power base a * power base b
power-add base zero b = let e : zero + b ≡ b = omega arith in ap (power base) e ∙ omega arith
power-add base (suc a) b = let e : suc a + b ≡ suc (a + b) = omega arith in ap (power base) e ∙ omega (arith, ap (λ z. base * z) (power-add base a b))

-- a power is cut in two
pub power-cut : (base a b : ℕ) → a ≤ b → power base b ≡ power base a * power base (b - a)
power-cut base a b le = let e : b ≡ a + (b - a) = omega arith in ap (power base) e ∙ power-add base a (b - a)

-- a greater exponent has a greater power
pub power_up : (base a b : ℕ) → 0 < base → a ≤ b → power base a ≤ power base b
power_up base a b some le =
    omega (arith, power-cut base a b le, mul-le-mul_right {m = 1} {n = power base (b - a)} (power base a) (some_power base (b - a) some))
