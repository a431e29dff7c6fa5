-- Magnitudes and signs of whole numbers, and what divides them.
use Rattle.std.specs.Prelude.{if◌then◌else◌, int_div, int_lt, nat_abs, neg_ℤ, negsuc, pos, ℤ, ◌*ℤ◌, ◌+ℤ◌, ◌-ℤ◌, ◌/◌, ◌≤ℤ◌}
use Prim.Native.Nat.{◌∣◌}
use Rattle.std.proofs.Common.{Bool, ap, arith, cond, false, inl, inr, refl, subst, suc, sym, true, zero, ℕ, ◌*◌, ◌+◌, ◌-◌, ◌<◌, ◌^◌, ◌∙◌, ◌≡◌, ◌≤◌}
use Rattle.std.proofs.Math.IntN.{*ℤ-zero, *ℤ_comm, neg_ℤ-neg_ℤ, negsuc-*ℤ-pos, pos-*ℤ-pos}
use Rattle.std.proofs.Math.Nat.{div-le_self, dvd-mul_left, dvd-mul_right, eq-zero_of_zero-dvd, le_of_mul-le-mul_left}
use Rattle.std.proofs.lemmas.Bool.{cases_lt}
use Rattle.std.proofs.lemmas.Bool.Decides.{nat_tests}
use Rattle.std.proofs.lemmas.Int.{by_lt_z, ints, unsigned_abs-mul}
use Rattle.std.proofs.lemmas.Nat.{mul-le}
use Rattle.bk_laws.proofs.Multiples.{product-below_pow_126}
use Rattle.bk_laws.proofs.Products.{mul_below}
use Rattle.bk_laws.proofs.WholeNumbers.{abs-mul, abs-neg, cancel_left, divisor_times_quotient, mul-add, mul-sub, mul-zero, mul_cross, neg-mul, one-*ℤ}
use Rattle.bk_laws.proofs.WholeNumbers.{quotient_is}

-- a factor that isn't 0 cancels
pub mul-cancel_nonzero : (c x y : ℤ) → (c ≡ pos 0 → ⊥) → c *ℤ x ≡ c *ℤ y → x ≡ y
mul-cancel_nonzero (pos zero) x y other e = absurd (other refl)
mul-cancel_nonzero (pos (suc n)) x y other e = cancel_left (suc n) x y (omega arith) e
mul-cancel_nonzero (negsuc n) x y other e =
    cancel_left (suc n) x y (omega arith)
    (sym (neg_ℤ-neg_ℤ (pos (suc n) *ℤ x)) ∙ ap neg_ℤ (sym (neg-mul (pos (suc n)) x) ∙ e ∙ neg-mul (pos (suc n)) y) ∙ neg_ℤ-neg_ℤ (pos (suc n) *ℤ y))

-- the product of two numbers that aren't 0 isn't 0
pub mul-nonzero : (c w : ℤ) → (c ≡ pos 0 → ⊥) → (w ≡ pos 0 → ⊥) → c *ℤ w ≡ pos 0 → ⊥
mul-nonzero c w some_c some_w e = some_w (mul-cancel_nonzero c w (pos 0) some_c (e ∙ sym (mul-zero c)))

-- what divides two numbers divides their sum
pub dvd_abs-add : (d : ℕ) (u v : ℤ) → d ∣ nat_abs u → d ∣ nat_abs v → d ∣ nat_abs (u +ℤ v)
dvd_abs-add d u v first second =
    subst (λ (n : ℕ). d ∣ n) (sym (abs-mul d (int_div u (pos d) +ℤ int_div v (pos d))) ∙ ap nat_abs whole)
    (dvd-mul_right d (nat_abs (int_div u (pos d) +ℤ int_div v (pos d))))
  where
    whole : pos d *ℤ (int_div u (pos d) +ℤ int_div v (pos d)) ≡ u +ℤ v
    whole = mul-add (pos d) (int_div u (pos d)) (int_div v (pos d)) ∙ (λ i. divisor_times_quotient d u first i +ℤ divisor_times_quotient d v second i)

-- what divides a difference and the number taken away divides the other
pub dvd_abs-left_of_difference : (d : ℕ) (u v : ℤ) → d ∣ nat_abs (u -ℤ v) → d ∣ nat_abs v → d ∣ nat_abs u
dvd_abs-left_of_difference d u v current other = subst (λ (z : ℤ). d ∣ nat_abs z) back (dvd_abs-add d (u -ℤ v) v current other)
  where
    back : (u -ℤ v) +ℤ v ≡ u
    back = omega (arith, ints)

-- what divides a difference and the number taken from divides the other
pub dvd_abs-right_of_difference : (d : ℕ) (u v : ℤ) → d ∣ nat_abs (v -ℤ u) → d ∣ nat_abs v → d ∣ nat_abs u
dvd_abs-right_of_difference d u v current other = dvd_abs-left_of_difference d u v (subst (λ (n : ℕ). d ∣ n) exchanged current) other
  where
    exchanged : nat_abs (v -ℤ u) ≡ nat_abs (u -ℤ v)
    exchanged = omega (arith, ints)

-- what is added at one end of a wire and taken away at the other, of a number at one of its ends
pub cond-moved_along_wire : (p q : Bool) (x y z a b c : ℤ) → a ≡ y +ℤ c → b ≡ z -ℤ c → (p ≡ true → y ≡ x) → (q ≡ true → z ≡ (if p then a else x))
    → (if q then b else (if p then a else x)) ≡ x +ℤ ((if p then c else pos 0) -ℤ (if q then c else pos 0))
cond-moved_along_wire true true x y z a b c ea eb ey ez = omega (arith, ints, ea, eb, ey refl, ez refl)
cond-moved_along_wire true false x y z a b c ea eb ey ez = omega (arith, ints, ea, ey refl)
cond-moved_along_wire false true x y z a b c ea eb ey ez = omega (arith, ints, eb, ez refl)
cond-moved_along_wire false false x y z a b c ea eb ey ez = omega (arith, ints)

-- two positive numbers of one magnitude are equal
pub positive-same_magnitude : (t u : ℤ) → pos 1 ≤ℤ t → pos 1 ≤ℤ u → nat_abs t ≡ nat_abs u → t ≡ u
positive-same_magnitude (pos m) (pos n) some positive e = ap pos e
positive-same_magnitude (pos m) (negsuc n) some positive e = absurd (omega (arith, ints, positive))
positive-same_magnitude (negsuc m) u some positive e = absurd (omega (arith, ints, some))

-- a multiple under a test is the multiple of the number under the test
pub cond-mul : (k : ℤ) (b : Bool) (c : ℤ) → cond b (k *ℤ c) (pos 0) ≡ k *ℤ cond b c (pos 0)
cond-mul k true c = refl
cond-mul k false c = sym (mul-zero k)

-- the difference of two numbers of magnitude below 2^126 is of magnitude below 2^127
pub abs_difference-below_pow_127 : (x y : ℤ) → nat_abs x < 2 ^ 126 → nat_abs y < 2 ^ 126 → nat_abs (x -ℤ y) < 2 ^ 127
abs_difference-below_pow_127 (pos m) (pos n) h k = omega (arith, ints)
abs_difference-below_pow_127 (pos m) (negsuc n) h k = omega (arith, ints)
abs_difference-below_pow_127 (negsuc m) (pos n) h k = omega (arith, ints)
abs_difference-below_pow_127 (negsuc m) (negsuc n) h k = omega (arith, ints)

-- the product of two numbers of magnitude below 2^63 is of magnitude below 2^126
pub abs_product-below_pow_126 : (x y : ℤ) → nat_abs x < 2 ^ 63 → nat_abs y < 2 ^ 63 → nat_abs (x *ℤ y) < 2 ^ 126
abs_product-below_pow_126 x y h k = subst (λ (n : ℕ). n < 2 ^ 126) (sym (unsigned_abs-mul x y)) (product-below_pow_126 (nat_abs x) (nat_abs y) h k)

-- a number of magnitude below 2^63 - 1, and one, is of magnitude below 2^63
pub abs_successor-below_pow_63 : (a : ℤ) → nat_abs a < 2 ^ 63 - 1 → nat_abs (a +ℤ pos 1) < 2 ^ 63
abs_successor-below_pow_63 (pos n) h = omega (arith, ints)
abs_successor-below_pow_63 (negsuc zero) h = omega (arith, ints)
abs_successor-below_pow_63 (negsuc (suc n)) h = omega (arith, ints)

-- a positive number with either sign isn't 0
pub signed-nonzero : (negative : Bool) (n : ℕ) → 0 < n → cond {A = ℤ} negative (neg_ℤ (pos n)) (pos n) ≡ pos 0 → ⊥
signed-nonzero true n h e = omega (arith, ints, h, e)
signed-nonzero false n h e = omega (arith, ints, h, e)

-- a number with either sign has the number as its magnitude
pub abs-signed : (b : Bool) (n : ℕ) → nat_abs (cond {A = ℤ} b (neg_ℤ (pos n)) (pos n)) ≡ n
abs-signed true zero = refl
abs-signed true (suc n) = refl
abs-signed false n = refl

-- the differences of two numbers in either order are of one magnitude
pub abs-difference_swapped : (u v : ℤ) → nat_abs (u -ℤ v) ≡ nat_abs (v -ℤ u)
abs-difference_swapped u v = omega (arith, ints)

-- a factor divides its multiple
pub dvd_abs-multiple : (n : ℤ) (x : ℕ) → x ∣ nat_abs (n *ℤ pos x)
dvd_abs-multiple n x = subst (λ (m : ℕ). x ∣ m) (sym (unsigned_abs-mul n (pos x))) (dvd-mul_left x (nat_abs n))

-- the magnitude of a product is at most the product of bounds of its factors
pub abs_product-le : (x y : ℤ) (a b : ℕ) → nat_abs x ≤ a → nat_abs y ≤ b → nat_abs (x *ℤ y) ≤ a * b
abs_product-le x y a b hx hy = omega (arith, unsigned_abs-mul x y, mul-le (nat_abs x) (nat_abs y) a b hx hy)

-- the magnitude of a number times a quotient is at most the product of their bounds
pub abs_product-quotient_le : (n : ℤ) (d g a b : ℕ) → nat_abs n ≤ a → d ≤ b → nat_abs (n *ℤ pos (d / g)) ≤ a * b
abs_product-quotient_le n d g a b hn hd = abs_product-le n (pos (d / g)) a b hn (omega (arith, div-le_self d g, hd))

-- the magnitude of a difference is at most the sum of bounds of its terms
pub abs_difference-le : (x y : ℤ) (a b : ℕ) → nat_abs x ≤ a → nat_abs y ≤ b → nat_abs (x -ℤ y) ≤ a + b
abs_difference-le x y a b hx hy = omega (arith, ints)

-- a product, negated where its first factor is negative, is its magnitude
pub absolute_product-by_sign : (n : ℤ) (d : ℕ) → (if int_lt n (pos 0) then neg_ℤ (n *ℤ pos d) else n *ℤ pos d) ≡ pos (nat_abs n * d)
absolute_product-by_sign (pos n) d = ap (λ (t : Bool). if t then neg_ℤ (pos n *ℤ pos d) else pos n *ℤ pos d) (not_below n)
  where
    not_below : (n : ℕ) → int_lt (pos n) (pos 0) ≡ false
    not_below n = grind (arith, nat_tests)
absolute_product-by_sign (negsuc n) d = twice (suc n * d)
  where
    twice : (m : ℕ) → neg_ℤ (neg_ℤ (pos m)) ≡ pos m
    twice zero = refl
    twice (suc m) = refl

-- a number that isn't 0 has a positive magnitude
pub abs-positive_of_nonzero : (z : ℤ) → (z ≡ pos 0 → ⊥) → 0 < nat_abs z
abs-positive_of_nonzero (pos zero) other = absurd (other refl)
abs-positive_of_nonzero (pos (suc n)) other = omega arith
abs-positive_of_nonzero (negsuc n) other = omega arith

-- the numerators of two equal fractions, over a common denominator
pub mul-over_common : (num part y v w den : ℤ) → num *ℤ v ≡ y *ℤ den → (num *ℤ part) *ℤ (v *ℤ w) ≡ (y *ℤ w) *ℤ (den *ℤ part)
mul-over_common num part y v w den e = mul_cross num part v w ∙ (λ i. e i *ℤ *ℤ_comm part w i) ∙ mul_cross y den w part

-- a number that 0 or 1 divides is its quotient by it
pub quotient_by_zero_or_one : (g : ℕ) (z : ℤ) → g < 2 → g ∣ nat_abs z → z ≡ int_div z (pos g)
quotient_by_zero_or_one zero (pos n) h d = ap pos (eq-zero_of_zero-dvd d ∙ sym (by_zero n (eq-zero_of_zero-dvd d)))
  where
    by_zero : (n : ℕ) → n ≡ 0 → n / 0 ≡ 0
    by_zero n e = omega arith
quotient_by_zero_or_one zero (negsuc n) h d = absurd (omega (arith, eq-zero_of_zero-dvd d))
quotient_by_zero_or_one (suc zero) z h d = sym (quotient_is 1 z z (omega arith) (one-*ℤ z))
quotient_by_zero_or_one (suc (suc g)) z h d = absurd (omega arith)

-- a number that is to m as z is to p, where m is at most p, is of no greater magnitude than z
pub scaled_down-abs_le : (p m b : ℕ) (s z : ℤ) → 0 < p → m ≤ p → pos p *ℤ s ≡ pos m *ℤ z → nat_abs z ≤ b → nat_abs s ≤ b
scaled_down-abs_le p m b s z some few e h = omega (arith, least, h)
  where
    magnitudes : p * nat_abs s ≡ m * nat_abs z
    magnitudes = sym (unsigned_abs-mul (pos p) s) ∙ ap nat_abs e ∙ unsigned_abs-mul (pos m) z

    least : nat_abs s ≤ nat_abs z
    least = le_of_mul-le-mul_left {k = p} (omega (arith, magnitudes, mul-le m (nat_abs z) p (nat_abs z) few (omega arith))) some

-- a positive number has a positive magnitude
pub abs-positive_of_positive : (z : ℤ) → pos 1 ≤ℤ z → 0 < nat_abs z
abs-positive_of_positive (pos n) positive = omega (arith, ints)
abs-positive_of_positive (negsuc n) positive = absurd positive.le

-- the terms of a wire with an opposite current, beside a difference of two sums, go to the sum at its other end
pub signed_terms-reversed_wire : (a b : Bool) (s m n : ℕ) (r : ℤ) → r ≡ pos m -ℤ pos n
    → (cond a (neg_ℤ (pos s)) (pos 0) -ℤ cond b (neg_ℤ (pos s)) (pos 0)) +ℤ r ≡ pos (cond b s 0 + m) -ℤ pos (cond a s 0 + n)
signed_terms-reversed_wire true true s m n r e = omega (arith, ints)
signed_terms-reversed_wire true false s m n r e = omega (arith, ints)
signed_terms-reversed_wire false true s m n r e = omega (arith, ints)
signed_terms-reversed_wire false false s m n r e = omega (arith, ints)

-- what a wire adds at a node is not negative, where no end of it is higher than the node
pub signed_terms-not_negative : (a b : Bool) (x y z : ℤ) → (a ≡ true → x ≡ z) → (b ≡ true → y ≡ z) → x ≤ℤ z → y ≤ℤ z
    → pos 0 ≤ℤ (cond a (x -ℤ y) (pos 0) -ℤ cond b (x -ℤ y) (pos 0))
signed_terms-not_negative true true x y z f g h k = omega (arith, ints, h, k)
signed_terms-not_negative true false x y z f g h k = omega (arith, ints, f refl, h, k)
signed_terms-not_negative false true x y z f g h k = omega (arith, ints, g refl, h, k)
signed_terms-not_negative false false x y z f g h k = omega (arith, ints, h, k)

-- if what a wire adds at a node that no end is higher than is 0, its other end is as high
pub signed_terms-zero : (a b : Bool) (x y z : ℤ) → (a ≡ true → x ≡ z) → (b ≡ true → y ≡ z) → (cond a (x -ℤ y) (pos 0) -ℤ cond b (x -ℤ y) (pos 0)) ≡ pos 0
    → (a ≡ true → y ≡ z) × (b ≡ true → x ≡ z)
signed_terms-zero true true x y z f g e = ((λ h. g refl), (λ h. f refl))
signed_terms-zero true false x y z f g e = ((λ h. omega (arith, ints, f refl, e)), (λ h. absurd cc))
signed_terms-zero false true x y z f g e = ((λ h. absurd cc), (λ h. omega (arith, ints, g refl, e)))
signed_terms-zero false false x y z f g e = ((λ h. absurd cc), (λ h. absurd cc))

-- of the values at the numbers below a positive one, some value is the greatest
pub greatest_value-below : (q : ℕ → ℤ) (n : ℕ) → 0 < n → (m : ℕ) × (m < n) × ((v : ℕ) → v < n → q v ≤ℤ q m)
greatest_value-below q zero some = absurd (omega arith)
greatest_value-below q (suc zero) some = (0, omega arith, λ v few. (let e : v ≡ 0 = omega arith in subst (λ k. q k ≤ℤ q 0) (sym e) (omega (arith, ints))))
greatest_value-below q (suc (suc n)) some = step (greatest_value-below q (suc n) (omega arith))
  where
    step : (m : ℕ) × (m < suc n) × ((v : ℕ) → v < suc n → q v ≤ℤ q m) → (m : ℕ) × (m < suc (suc n)) × ((v : ℕ) → v < suc (suc n) → q v ≤ℤ q m)
    step (m, few, top) = by_lt_z (q m) (q (suc n))
        (λ lower. (
          suc n,
          omega arith,
          λ v h. elim (cases_lt v (suc n)) [
            | inl below ↦ omega (arith, ints, top v below, lower)
            | inr last ↦ (let e : v ≡ suc n = omega arith in subst (λ k. q k ≤ℤ q (suc n)) (sym e) (omega (arith, ints)))
          ],
        ))
        (λ higher. (
          m,
          omega (arith, few),
          λ v h. elim (cases_lt v (suc n)) [
            | inl below ↦ top v below
            | inr last ↦ (let e : v ≡ suc n = omega arith in subst (λ k. q k ≤ℤ q m) (sym e) higher)
          ],
        ))

-- the difference of two multiples under a test, each multiple apart
pub cond-difference_of_multiples : (b : Bool) (i px py j rx ry : ℤ) → cond b ((i *ℤ px -ℤ j *ℤ rx) -ℤ (i *ℤ py -ℤ j *ℤ ry)) (pos 0)
    ≡ i *ℤ cond b (px -ℤ py) (pos 0) -ℤ j *ℤ cond b (rx -ℤ ry) (pos 0)
cond-difference_of_multiples true i px py j rx ry = omega (arith, ints, mul-sub i px py, mul-sub j rx ry)
cond-difference_of_multiples false i px py j rx ry = omega (arith, ints, *ℤ-zero i, *ℤ-zero j)

-- the terms of a wire, where one of the two sums counts under the test of its beginning
pub signed_terms-wire_at_source : (a b : Bool) (s m n : ℕ) (r : ℤ) → r ≡ pos (cond a m 0) -ℤ pos n
    → (cond a (pos s) (pos 0) -ℤ cond b (pos s) (pos 0)) +ℤ r ≡ pos (cond a (s + m) 0) -ℤ pos (cond b s 0 + n)
signed_terms-wire_at_source true true s m n r e = omega (arith, ints)
signed_terms-wire_at_source true false s m n r e = omega (arith, ints)
signed_terms-wire_at_source false true s m n r e = omega (arith, ints)
signed_terms-wire_at_source false false s m n r e = omega (arith, ints)

-- no wire is the difference of two sums of nothing
pub signed_terms-none : (a : Bool) → pos 0 ≡ pos (cond {A = ℕ} a 0 0) -ℤ pos 0
signed_terms-none true = omega (arith, ints)
signed_terms-none false = omega (arith, ints)

-- the magnitude of a number and one is at most that of the number and one
pub abs_successor-le : (a : ℤ) (k : ℕ) → nat_abs a ≤ k → nat_abs (a +ℤ pos 1) ≤ suc k
abs_successor-le (pos n) k h = omega (arith, ints)
abs_successor-le (negsuc zero) k h = omega (arith, ints)
abs_successor-le (negsuc (suc n)) k h = omega (arith, ints)

-- a number that is to a positive one as a positive one is to a width is at least 1
pub positive-of_proportion : (c : ℤ) (s wide all : ℕ) → 0 < s → 0 < all → c *ℤ pos wide ≡ pos s *ℤ pos all → pos 1 ≤ℤ c
positive-of_proportion (pos zero) s wide all h k e =
    absurd (omega (arith, mul_below s 0 all h k, same (zero * wide) (s * all) (sym (pos-*ℤ-pos zero wide) ∙ e ∙ pos-*ℤ-pos s all)))
  where
    same : (a b : ℕ) → pos a ≡ pos b → a ≡ b
    same a b f = omega (arith, ints)
positive-of_proportion (pos (suc n)) s wide all h k e = omega (arith, ints)
positive-of_proportion (negsuc n) s wide all h k e =
    absurd (not_below (suc n * wide) (s * all) (mul_below s 0 all h k) (sym (negsuc-*ℤ-pos n wide) ∙ e ∙ pos-*ℤ-pos s all))
  where
    not_below : (a b : ℕ) → s * 0 < b → neg_ℤ (pos a) ≡ pos b → ⊥
    not_below zero b l f = omega (arith, ints, f, l)
    not_below (suc a) b l f = omega (arith, ints, f, l)

-- the terms of a wire, beside a difference of two sums, go to the sums at its ends
pub signed_terms-wire : (a b : Bool) (s m n : ℕ) (r : ℤ) → r ≡ pos m -ℤ pos n
    → (cond a (pos s) (pos 0) -ℤ cond b (pos s) (pos 0)) +ℤ r ≡ pos (cond a s 0 + m) -ℤ pos (cond b s 0 + n)
signed_terms-wire true true s m n r e = omega (arith, ints)
signed_terms-wire true false s m n r e = omega (arith, ints)
signed_terms-wire false true s m n r e = omega (arith, ints)
signed_terms-wire false false s m n r e = omega (arith, ints)

-- 1 isn't 0
pub one_is_not_zero : pos 1 ≡ pos 0 → ⊥
one_is_not_zero e = omega (arith, ints, e)

-- z, negated where w is negative
abbrev pub signed : ℤ → ℤ → ℤ
signed z (pos m) = z
signed z (negsuc m) = neg_ℤ z

-- a number, negated or not, keeps its magnitude
pub signed_magnitude : (z w : ℤ) → nat_abs (signed z w) ≡ nat_abs z
signed_magnitude z (pos m) = refl
signed_magnitude z (negsuc m) = abs-neg z

-- z is p times a whole number
abbrev pub IsMultiple : ℤ → ℤ → Type 0
IsMultiple p z = (c : ℤ) × (p *ℤ c ≡ z)
