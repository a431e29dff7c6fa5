-- Whole numbers as a machine holds them, in 64 and in 128 bits with a sign.
use Rattle.std.specs.Int.{w128, w64}
use Rattle.std.specs.Prelude.{FitsSigned, int_div, nat_abs, neg_ℤ, negsuc, pos, ℤ, ◌*ℤ◌, ◌+ℤ◌, ◌-ℤ◌, ◌<ℤ◌, ◌≤ℤ◌, ◌≤◌}
use Rattle.std.proofs.Common.{Fits, ap, arith, of_z, refl, subst, sym, to_z, ℕ, ◌-◌, ◌<◌, ◌^◌, ◌∙◌, ◌≡◌}
use Rattle.std.proofs.lemmas.Int.{ints, quot_fits, quot_is, to_z-of_z, to_z_pos, unsigned_abs-mul}
use Rattle.std.proofs.lemmas.Nat.{mul-le}
use Rattle.bk_laws.proofs.Magnitudes.{abs_difference-below_pow_127, abs_product-below_pow_126, abs_successor-below_pow_63}
use Rattle.bk_laws.proofs.WholeNumbers.{abs-neg}

-- the magnitude of a number of 128 bits, as the machine holds it
pub held_magnitude-w128 : (z w : ℤ) (n : ℕ) → FitsSigned w128 z → z ≡ w → n ≡ nat_abs (to_z w128 (of_z w128 z)) → n ≡ nat_abs w
held_magnitude-w128 z w n fits is held = held ∙ ap nat_abs (to_z-of_z w128 z fits ∙ is)

-- a number of at most 2^34 in magnitude fits 64 bits with a sign
pub fits_w64-of_at_most_pow_34 : (z : ℤ) → nat_abs z ≤ 2 ^ 34 → FitsSigned w64 z
fits_w64-of_at_most_pow_34 (pos n) h = record { sfits = omega (arith, ints, h) }
fits_w64-of_at_most_pow_34 (negsuc n) h = record { sfits = omega (arith, ints, h) }

-- a number of at most 2^34 in magnitude is the same in 64 bits and in 128
pub held_in_w64-of_at_most_pow_34 : (z w : ℤ) → FitsSigned w128 z → z ≡ w → nat_abs w ≤ 2 ^ 34
    → FitsSigned w64 (to_z w128 (of_z w128 z)) × (to_z w64 (of_z w64 (to_z w128 (of_z w128 z))) ≡ w)
held_in_w64-of_at_most_pow_34 z w fits is small = (narrow, to_z-of_z w64 (to_z w128 (of_z w128 z)) narrow ∙ held)
  where
    held : to_z w128 (of_z w128 z) ≡ w
    held = to_z-of_z w128 z fits ∙ is

    narrow : FitsSigned w64 (to_z w128 (of_z w128 z))
    narrow = subst (λ (v : ℤ). FitsSigned w64 v) (sym held) (fits_w64-of_at_most_pow_34 w small)

-- the difference of two numbers of magnitude below 2^126 fits 128 bits with a sign
pub difference_fits_w128 : (x y : ℤ) → nat_abs x < 2 ^ 126 → nat_abs y < 2 ^ 126 → FitsSigned w128 (x -ℤ y)
difference_fits_w128 x y h k = fits (x -ℤ y) (abs_difference-below_pow_127 x y h k)
  where
    fits : (z : ℤ) → nat_abs z < 2 ^ 127 → FitsSigned w128 z
    fits (pos n) l = record { sfits = l }
    fits (negsuc n) l = record { sfits = omega arith }

-- the product of two numbers of magnitude below 2^63 fits 128 bits with a sign
pub product_fits_w128 : (x y : ℤ) → nat_abs x < 2 ^ 63 → nat_abs y < 2 ^ 63 → FitsSigned w128 (x *ℤ y)
product_fits_w128 x y h k = low_fits (x *ℤ y) (abs_product-below_pow_126 x y h k)
  where
    low_fits : (z : ℤ) → nat_abs z < 2 ^ 126 → FitsSigned w128 z
    low_fits (pos n) l = record { sfits = omega arith }
    low_fits (negsuc n) l = record { sfits = omega arith }

-- a number of magnitude below 2^63 fits 128 bits with a sign
pub fits_w128-of_below_pow_63 : (z : ℤ) → nat_abs z < 2 ^ 63 → FitsSigned w128 z
fits_w128-of_below_pow_63 (pos n) h = record { sfits = omega arith }
fits_w128-of_below_pow_63 (negsuc n) h = record { sfits = omega arith }

-- a number of magnitude below 2^63 fits 64 bits with a sign
pub fits_w64-of_below_pow_63 : (a : ℤ) → nat_abs a < 2 ^ 63 → FitsSigned w64 a
fits_w64-of_below_pow_63 (pos n) h = record { sfits = h }
fits_w64-of_below_pow_63 (negsuc n) h = record { sfits = omega arith }

-- a number of magnitude below 2^63 is as 64 bits hold it
pub held_in_w64-of_below_pow_63 : (a : ℤ) → nat_abs a < 2 ^ 63 → to_z w64 (of_z w64 a) ≡ a
held_in_w64-of_below_pow_63 a h = to_z-of_z w64 a (fits_w64-of_below_pow_63 a h)

-- a number of magnitude below 2^63, held in 64 bits and widened, is that number
pub held_widened-factor : (x p : ℤ) → x ≡ to_z w64 (of_z w64 p) → nat_abs p < 2 ^ 63 → to_z w128 (of_z w128 x) ≡ p
held_widened-factor x p e h = ap (λ (z : ℤ). to_z w128 (of_z w128 z)) (e ∙ held_in_w64-of_below_pow_63 p h) ∙ to_z-of_z w128 p (fits_w128-of_below_pow_63 p h)

-- the product of two numbers of magnitude below 2^63, held in 64 bits and widened, is their product
pub held_widened-product : (x y p a : ℤ) → x ≡ to_z w64 (of_z w64 p) → y ≡ to_z w64 (of_z w64 a) → nat_abs p < 2 ^ 63 → nat_abs a < 2 ^ 63
    → to_z w128 (of_z w128 (to_z w128 (of_z w128 x) *ℤ to_z w128 (of_z w128 y))) ≡ p *ℤ a
held_widened-product x y p a ex ey hp ha =
    (λ i. to_z w128 (of_z w128 (held_widened-factor x p ex hp i *ℤ held_widened-factor y a ey ha i))) ∙ to_z-of_z w128 (p *ℤ a) (product_fits_w128 p a hp ha)

-- the product of two numbers held in 64 bits fits 128
pub product_of_widened_fits : (x y p a : ℤ) → x ≡ to_z w64 (of_z w64 p) → y ≡ to_z w64 (of_z w64 a) → nat_abs p < 2 ^ 63 → nat_abs a < 2 ^ 63
    → FitsSigned w128 (to_z w128 (of_z w128 x) *ℤ to_z w128 (of_z w128 y))
product_of_widened_fits x y p a ex ey hp ha =
    subst (FitsSigned w128) (λ i. sym (held_widened-factor x p ex hp) i *ℤ sym (held_widened-factor y a ey ha) i) (product_fits_w128 p a hp ha)

-- a number of magnitude below 2^63 - 1, and one, as 64 bits hold it
pub held_successor-w64 : (a : ℤ) → nat_abs a < 2 ^ 63 - 1 → to_z w64 (of_z w64 (to_z w64 (of_z w64 a) +ℤ pos 1)) ≡ a +ℤ pos 1
held_successor-w64 a h = ap (λ (z : ℤ). to_z w64 (of_z w64 (z +ℤ pos 1))) (held_in_w64-of_below_pow_63 a (omega arith)) ∙ held_in_w64-of_below_pow_63
    (a +ℤ pos 1) (abs_successor-below_pow_63 a h)

-- the opposite of a number of magnitude below 2^63, as 64 bits hold it
pub held_opposite-w64 : (a : ℤ) → nat_abs a < 2 ^ 63 → to_z w64 (of_z w64 (pos 0 -ℤ to_z w64 (of_z w64 a))) ≡ neg_ℤ a
held_opposite-w64 a h = ap (λ (z : ℤ). to_z w64 (of_z w64 z)) (ap (λ (z : ℤ). pos 0 -ℤ z) (to_z-of_z w64 a (fits_w64-of_below_pow_63 a h)) ∙ less)
    ∙ to_z-of_z w64 (neg_ℤ a) (fits_w64-of_below_pow_63 (neg_ℤ a) (subst (λ (n : ℕ). n < 2 ^ 63) (sym (abs-neg a)) h))
  where
    less : pos 0 -ℤ a ≡ neg_ℤ a
    less = omega (arith, ints)

-- a number of magnitude below 2^63 is of such magnitude as 64 bits hold it
pub held_magnitude_below-w64 : (a : ℤ) → nat_abs a < 2 ^ 63 → nat_abs (to_z w64 (of_z w64 a)) < 2 ^ 63
held_magnitude_below-w64 a h = subst (λ (z : ℤ). nat_abs z < 2 ^ 63) (sym (held_in_w64-of_below_pow_63 a h)) h

-- the quotient of two numbers of 128 bits, as the machine holds them
pub held_quotient-by_held_divisor : (n k : ℤ) (g : ℕ) → FitsSigned w128 n → FitsSigned w128 k → k ≡ pos g → 0 < g
    → to_z w128 (of_z w128 (int_div (to_z w128 (of_z w128 n)) (to_z w128 (of_z w128 k)))) ≡ int_div n (pos g)
held_quotient-by_held_divisor n k g fn fk is some =
    quot_is w128 n k fn fk (quot_fits w128 n k fn (omega (arith, ints, is, some))) ∙ ap (λ (z : ℤ). int_div n z) is

-- the quotient of a number of 128 bits by a positive divisor, as the machine holds it
pub held_quotient-w128 : (z : ℤ) (d : ℕ) → FitsSigned w128 z → d < 2 ^ 127 → 0 < d
    → to_z w128 (of_z w128 (int_div (to_z w128 (of_z w128 z)) (to_z w128 d))) ≡ int_div z (pos d)
held_quotient-w128 z d fz low some = ap (λ (k : ℤ). to_z w128 (of_z w128 (int_div (to_z w128 (of_z w128 z)) k)))
    (to_z_pos w128 d low ∙ sym (to_z-of_z w128 (pos d) (record { sfits = low }))) ∙ held_quotient-by_held_divisor z (pos d) d fz (record { sfits = low }) refl
    some

-- a number that fits 64 bits is the same when it is narrowed to them
pub held_narrowed-w64 : (z : ℤ) → FitsSigned w128 z → FitsSigned w64 z → to_z w64 (of_z w64 (to_z w128 (of_z w128 z))) ≡ z
held_narrowed-w64 z fits word = ap (λ (y : ℤ). to_z w64 (of_z w64 y)) (to_z-of_z w128 z fits) ∙ to_z-of_z w64 z word

-- a number that fits 64 bits is the same when it is narrowed to them and widened again
pub held_narrowed_and_widened : (z : ℤ) → FitsSigned w128 z → FitsSigned w64 z
    → to_z w128 (of_z w128 (to_z w64 (of_z w64 (to_z w128 (of_z w128 z))))) ≡ z
held_narrowed_and_widened z fits word = ap (λ (y : ℤ). to_z w128 (of_z w128 y)) (held_narrowed-w64 z fits word) ∙ to_z-of_z w128 z fits

-- the quotient of two numbers that fit 64 bits, as the machine holds it
pub held_quotient-w64 : (n k : ℤ) → FitsSigned w128 n → FitsSigned w64 n → FitsSigned w128 k → FitsSigned w64 k → pos 0 <ℤ k
    → to_z w128 (of_z w128 (to_z w64 (of_z w64 (int_div (to_z w64 (of_z w64 (to_z w128 (of_z w128 n))))
    (to_z w64 (of_z w64 (to_z w128 (of_z w128 k)))))))) ≡ int_div n k
held_quotient-w64 n k fn wn fk wk some =
    ap (λ (y : ℤ). to_z w128 (of_z w128 y))
    (ap (λ (y : ℤ). to_z w64 (of_z w64 (int_div (to_z w64 (of_z w64 y)) (to_z w64 (of_z w64 (to_z w128 (of_z w128 k))))))) (to_z-of_z w128 n fn)
    ∙ ap (λ (y : ℤ). to_z w64 (of_z w64 (int_div (to_z w64 (of_z w64 n)) (to_z w64 (of_z w64 y))))) (to_z-of_z w128 k fk)
    ∙ quot_is w64 n k wn wk (quot_fits w64 n k wn some))
    ∙ to_z-of_z w128 (int_div n k) (quot_fits w128 n k fn some)

-- a number that fits 64 bits is at most 2^63 in magnitude
pub magnitude-of_fits_w64 : (z : ℤ) → FitsSigned w64 z → nat_abs z ≤ 2 ^ 63
magnitude-of_fits_w64 (pos n) word = omega (arith, word.sfits)
magnitude-of_fits_w64 (negsuc n) word = omega (arith, word.sfits)

-- the product of two numbers that fit 64 bits is at most 2^126 in magnitude
pub product_magnitude-of_fits_w64 : (x y : ℤ) → FitsSigned w64 x → FitsSigned w64 y → nat_abs (x *ℤ y) ≤ 2 ^ 126
product_magnitude-of_fits_w64 x y wx wy =
    omega (arith, unsigned_abs-mul x y, mul-le (nat_abs x) (nat_abs y) (2 ^ 63) (2 ^ 63) (magnitude-of_fits_w64 x wx) (magnitude-of_fits_w64 y wy))

-- a number of at most 2^126 in magnitude fits 128 bits with a sign
pub fits_w128-of_at_most_pow_126 : (z : ℤ) → nat_abs z ≤ 2 ^ 126 → FitsSigned w128 z
fits_w128-of_at_most_pow_126 (pos n) low = record { sfits = omega arith }
fits_w128-of_at_most_pow_126 (negsuc n) low = record { sfits = omega arith }

-- the product of two numbers that fit 64 bits, as the machine holds them
pub held_product-w64 : (x y : ℤ) → FitsSigned w128 x → FitsSigned w64 x → FitsSigned w128 y → FitsSigned w64 y
    → to_z w128 (of_z w128 (to_z w64 (of_z w64 (to_z w128 (of_z w128 x))))) *ℤ to_z w128 (of_z w128 (to_z w64 (of_z w64 (to_z w128 (of_z w128 y))))) ≡ x *ℤ y
held_product-w64 x y fx wx fy wy = λ i. held_narrowed_and_widened x fx wx i *ℤ held_narrowed_and_widened y fy wy i

-- the product of two numbers of 128 bits, as the machine holds them
pub held_product-w128 : (x y v w : ℤ) → FitsSigned w128 x → FitsSigned w128 y → x ≡ v → y ≡ w → to_z w128 (of_z w128 x) *ℤ to_z w128 (of_z w128 y) ≡ v *ℤ w
held_product-w128 x y v w fx fy ex ey = λ i. (to_z-of_z w128 x fx ∙ ex) i *ℤ (to_z-of_z w128 y fy ∙ ey) i

-- the difference of two numbers of 128 bits, as the machine holds them
pub held_difference-w128 : (x y v w : ℤ) → FitsSigned w128 x → FitsSigned w128 y → x ≡ v → y ≡ w → to_z w128 (of_z w128 x) -ℤ to_z w128 (of_z w128 y) ≡ v -ℤ w
held_difference-w128 x y v w fx fy ex ey = λ i. (to_z-of_z w128 x fx ∙ ex) i -ℤ (to_z-of_z w128 y fy ∙ ey) i

-- a number between the limits of 64 bits
abbrev pub IsShort : ℤ → Type 0
IsShort z = (neg_ℤ (pos (2 ^ 63)) ≤ℤ z) × (z <ℤ pos (2 ^ 63))

-- a number between the limits of 64 bits fits them
pub fits_w64-of_short : (z : ℤ) → IsShort z → FitsSigned w64 z
fits_w64-of_short (pos n) (least, most) = record { sfits = omega (arith, ints) }
fits_w64-of_short (negsuc n) (least, most) = record { sfits = omega (arith, ints) }

-- a number of 128 bits that is held as one between the limits of 64 bits fits these
pub fits_w64-of_held_short : (z : ℤ) → FitsSigned w128 z → IsShort (to_z w128 (of_z w128 z)) → FitsSigned w64 z
fits_w64-of_held_short z fits short = fits_w64-of_short z (subst IsShort (to_z-of_z w128 z fits) short)

-- a number below 2 ^ 64 fits 64 bits
pub number_below_fits : {n : ℕ} → n < 2 ^ 64 → Fits w64 n
number_below_fits low = omega (arith, low)
