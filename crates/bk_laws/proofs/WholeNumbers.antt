-- Products and exact quotients of whole numbers.
use Rattle.std.specs.Prelude.{int_div, nat_abs, neg_ℤ, negsuc, pos, suc, zero, ℕ, ℤ, ◌*ℤ◌, ◌*◌, ◌+ℤ◌, ◌-ℤ◌, ◌/◌, ◌<◌, ◌≡◌}
use Rattle.std.proofs.Common.{ap, arith, refl, subst, sym, ◌∙◌}
use Rattle.std.proofs.Math.IntN.{*ℤ_comm, pos-*ℤ-negsuc, pos-*ℤ-pos, pred_ℤ-*ℤ, suc_ℤ-*ℤ, zero-*ℤ}
use Rattle.std.proofs.Math.Nat.{dvd-mul_right, mul-div_cancel', mul-pos}
use Rattle.std.proofs.lemmas.Int.{ints, unsigned_abs-mul}
use Prim.Native.Nat.{◌∣◌}

-- the product spreads over sums and differences
pub mul-add : (k x y : ℤ) → k *ℤ (x +ℤ y) ≡ k *ℤ x +ℤ k *ℤ y
mul-add (pos zero) x y = omega (arith, ints, zero-*ℤ (x +ℤ y), zero-*ℤ x, zero-*ℤ y)
mul-add (pos (suc n)) x y = omega (arith, ints, suc_ℤ-*ℤ (pos n) (x +ℤ y), suc_ℤ-*ℤ (pos n) x, suc_ℤ-*ℤ (pos n) y, mul-add (pos n) x y)
mul-add (negsuc zero) x y =
    omega (
      arith,
      ints,
      pred_ℤ-*ℤ (pos zero) (x +ℤ y),
      pred_ℤ-*ℤ (pos zero) x,
      pred_ℤ-*ℤ (pos zero) y,
      zero-*ℤ (x +ℤ y),
      zero-*ℤ x,
      zero-*ℤ y,
    )
mul-add (negsuc (suc n)) x y =
    omega (arith, ints, pred_ℤ-*ℤ (negsuc n) (x +ℤ y), pred_ℤ-*ℤ (negsuc n) x, pred_ℤ-*ℤ (negsuc n) y, mul-add (negsuc n) x y)

-- a product by a difference
pub mul-sub : (k x y : ℤ) → k *ℤ (x -ℤ y) ≡ k *ℤ x -ℤ k *ℤ y
mul-sub (pos zero) x y = omega (arith, ints, zero-*ℤ (x -ℤ y), zero-*ℤ x, zero-*ℤ y)
mul-sub (pos (suc n)) x y = omega (arith, ints, suc_ℤ-*ℤ (pos n) (x -ℤ y), suc_ℤ-*ℤ (pos n) x, suc_ℤ-*ℤ (pos n) y, mul-sub (pos n) x y)
mul-sub (negsuc zero) x y =
    omega (
      arith,
      ints,
      pred_ℤ-*ℤ (pos zero) (x -ℤ y),
      pred_ℤ-*ℤ (pos zero) x,
      pred_ℤ-*ℤ (pos zero) y,
      zero-*ℤ (x -ℤ y),
      zero-*ℤ x,
      zero-*ℤ y,
    )
mul-sub (negsuc (suc n)) x y =
    omega (arith, ints, pred_ℤ-*ℤ (negsuc n) (x -ℤ y), pred_ℤ-*ℤ (negsuc n) x, pred_ℤ-*ℤ (negsuc n) y, mul-sub (negsuc n) x y)

-- a sum times a number
pub add-mul : (x y k : ℤ) → (x +ℤ y) *ℤ k ≡ x *ℤ k +ℤ y *ℤ k
add-mul x y k = omega (arith, ints, mul-add k x y, *ℤ_comm (x +ℤ y) k, *ℤ_comm x k, *ℤ_comm y k)

-- a difference times a number
pub sub-mul : (x y k : ℤ) → (x -ℤ y) *ℤ k ≡ x *ℤ k -ℤ y *ℤ k
sub-mul x y k = omega (arith, ints, mul-sub k x y, *ℤ_comm (x -ℤ y) k, *ℤ_comm x k, *ℤ_comm y k)

-- any number times 0
pub mul-zero : (k : ℤ) → k *ℤ pos 0 ≡ pos 0
mul-zero k = *ℤ_comm k (pos 0) ∙ zero-*ℤ k

-- 1 times a number
pub one-*ℤ : (k : ℤ) → pos 1 *ℤ k ≡ k
one-*ℤ k = suc_ℤ-*ℤ (pos 0) k ∙ ap (λ (z : ℤ). z +ℤ k) (zero-*ℤ k) ∙ omega (arith, ints)

-- the opposite of the second factor makes the opposite product
pub mul-neg : (k x : ℤ) → k *ℤ neg_ℤ x ≡ neg_ℤ (k *ℤ x)
mul-neg k x = ap (λ (y : ℤ). k *ℤ y) less ∙ mul-sub k (pos 0) x ∙ omega (arith, ints, mul-zero k)
  where
    less : neg_ℤ x ≡ pos 0 -ℤ x
    less = omega (arith, ints)

-- the opposite of the first factor makes the opposite product
pub neg-mul : (x k : ℤ) → neg_ℤ x *ℤ k ≡ neg_ℤ (x *ℤ k)
neg-mul x k = *ℤ_comm (neg_ℤ x) k ∙ mul-neg k x ∙ ap neg_ℤ (*ℤ_comm k x)

-- three factors in either grouping
pub mul_assoc : (k x y : ℤ) → (k *ℤ x) *ℤ y ≡ k *ℤ (x *ℤ y)
mul_assoc (pos zero) x y = ap (λ (z : ℤ). z *ℤ y) (zero-*ℤ x) ∙ zero-*ℤ y ∙ sym (zero-*ℤ (x *ℤ y))
mul_assoc (pos (suc n)) x y = ap (λ (z : ℤ). z *ℤ y) (suc_ℤ-*ℤ (pos n) x)
    ∙ add-mul (pos n *ℤ x) x y
    ∙ ap (λ (z : ℤ). z +ℤ x *ℤ y) (mul_assoc (pos n) x y)
    ∙ sym (suc_ℤ-*ℤ (pos n) (x *ℤ y))
mul_assoc (negsuc zero) x y = ap (λ (z : ℤ). z *ℤ y) (pred_ℤ-*ℤ (pos zero) x)
    ∙ sub-mul (pos zero *ℤ x) x y
    ∙ ap (λ (z : ℤ). z -ℤ x *ℤ y) (ap (λ (z : ℤ). z *ℤ y) (zero-*ℤ x) ∙ zero-*ℤ y ∙ sym (zero-*ℤ (x *ℤ y)))
    ∙ sym (pred_ℤ-*ℤ (pos zero) (x *ℤ y))
mul_assoc (negsuc (suc n)) x y = ap (λ (z : ℤ). z *ℤ y) (pred_ℤ-*ℤ (negsuc n) x)
    ∙ sub-mul (negsuc n *ℤ x) x y
    ∙ ap (λ (z : ℤ). z -ℤ x *ℤ y) (mul_assoc (negsuc n) x y)
    ∙ sym (pred_ℤ-*ℤ (negsuc n) (x *ℤ y))

-- the order of factors is free
pub mul_swap : (x y z : ℤ) → (x *ℤ y) *ℤ z ≡ (x *ℤ z) *ℤ y
mul_swap x y z = mul_assoc x y z ∙ ap (λ (w : ℤ). x *ℤ w) (*ℤ_comm y z) ∙ sym (mul_assoc x z y)

-- four factors, the middle two exchanged
pub mul_cross : (x y z w : ℤ) → (x *ℤ y) *ℤ (z *ℤ w) ≡ (x *ℤ z) *ℤ (y *ℤ w)
mul_cross x y z w = sym (mul_assoc (x *ℤ y) z w) ∙ ap (λ (v : ℤ). v *ℤ w) (mul_swap x y z) ∙ mul_assoc (x *ℤ z) y w

-- a product by a positive number is 0 only if the other factor is
zero_factor : (n : ℕ) (z : ℤ) → 0 < n → pos n *ℤ z ≡ pos 0 → z ≡ pos 0
zero_factor n (pos zero) some e = refl
zero_factor n (pos (suc m)) some e = absurd (omega (arith, ints, mul-pos {m = n} {n = suc m} some (omega arith), e, pos-*ℤ-pos n (suc m)))
zero_factor n (negsuc m) some e = absurd (omega (arith, ints, mul-pos {m = n} {n = suc m} some (omega arith), e, pos-*ℤ-negsuc n m))

-- a positive factor on the left is cancelled
pub cancel_left : (n : ℕ) (x y : ℤ) → 0 < n → pos n *ℤ x ≡ pos n *ℤ y → x ≡ y
cancel_left n x y some e =
    let none : x -ℤ y ≡ pos 0 = zero_factor n (x -ℤ y) some (mul-sub (pos n) x y ∙ omega (arith, ints, e)) in omega (arith, ints, none)

-- a positive factor on the right is cancelled
pub cancel_right : (n : ℕ) (x y : ℤ) → 0 < n → x *ℤ pos n ≡ y *ℤ pos n → x ≡ y
cancel_right n x y some e = cancel_left n x y some (*ℤ_comm (pos n) x ∙ e ∙ *ℤ_comm y (pos n))

-- a divisor times the quotient by it, of numbers that aren't negative
exact_nat : (g n : ℕ) → g ∣ n → pos g *ℤ pos (n / g) ≡ pos n
exact_nat g n d = pos-*ℤ-pos g (n / g) ∙ ap pos (mul-div_cancel' g d)

-- a divisor times the quotient by it
pub divisor_times_quotient : (g : ℕ) (a : ℤ) → g ∣ nat_abs a → pos g *ℤ int_div a (pos g) ≡ a
divisor_times_quotient g (pos n) d = exact_nat g n d
divisor_times_quotient g (negsuc n) d = mul-neg (pos g) (pos (suc n / g)) ∙ ap neg_ℤ (exact_nat g (suc n) d)

-- the magnitude of a number times one that isn't negative
pub abs-mul : (n : ℕ) (z : ℤ) → nat_abs (pos n *ℤ z) ≡ n * nat_abs z
abs-mul n z = unsigned_abs-mul (pos n) z

-- the number of which z is the multiple by g is the quotient of z by g
pub quotient_is : (g : ℕ) (z w : ℤ) → 0 < g → pos g *ℤ w ≡ z → int_div z (pos g) ≡ w
quotient_is g z w some e = cancel_left g (int_div z (pos g)) w some (divisor_times_quotient g z divides ∙ sym e)
  where
    divides : g ∣ nat_abs z
    divides = subst (λ (n : ℕ). g ∣ n) (sym (abs-mul g w) ∙ ap nat_abs e) (dvd-mul_right g (nat_abs w))

-- the magnitude of a number that isn't positive
pub neg-abs : (n : ℕ) → nat_abs (neg_ℤ (pos n)) ≡ n
neg-abs zero = refl
neg-abs (suc n) = refl

-- the magnitude of a quotient is the quotient of the magnitude
pub abs-quotient : (g : ℕ) (z : ℤ) → nat_abs (int_div z (pos g)) ≡ nat_abs z / g
abs-quotient g (pos n) = refl
abs-quotient g (negsuc n) = neg-abs (suc n / g)

-- a number and its opposite are of one magnitude
pub abs-neg : (z : ℤ) → nat_abs (neg_ℤ z) ≡ nat_abs z
abs-neg (pos zero) = refl
abs-neg (pos (suc n)) = refl
abs-neg (negsuc n) = refl

-- a number taken from 0 is of the magnitude of the number
pub abs-less : (z : ℤ) → nat_abs (pos 0 -ℤ z) ≡ nat_abs z
abs-less z = ap nat_abs less ∙ abs-neg z
  where
    less : pos 0 -ℤ z ≡ neg_ℤ z
    less = omega (arith, ints)

-- a multiple of one function less a multiple of another
abbrev pub mix : ℤ → (ℕ → ℤ) → ℤ → (ℕ → ℤ) → ℕ → ℤ
mix i p j r v = i *ℤ p v -ℤ j *ℤ r v
