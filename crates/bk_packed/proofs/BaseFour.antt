-- Digits of base 4: the first one in which two numbers differ decides, and a number is written digit by digit.
use Rattle.std.proofs.Common.{List, [], ap, arith, drop, get_or, length, subst, suc, sym, take, zero, ℕ, ◌*◌, ◌+◌, ◌-◌, ◌/◌, ◌<◌, ◌^◌, ◌∙◌, ◌∷◌}
use Rattle.std.proofs.Common.{◌≡◌, ◌≤◌}
use Rattle.std.proofs.lemmas.List.{drop_more, length-drop, take-append-drop}
use Rattle.std.proofs.Math.Nat.{one-le-pow}
use Rattle.bk_laws.proofs.AllOfLists.{all_right}
use Rattle.bk_laws.proofs.Multiples.{digit_times-le_four_times, pow_four-suc}
use Rattle.bk_packed.specs.Packed.{AreDigits, begun_by}

-- the first digit, and those behind it
pub begun-cons : (room d : ℕ) (ds : List ℕ) → begun_by (suc room) (d ∷ ds) ≡ d * 4 ^ room + begun_by room ds
begun-cons room d ds = let e : suc room - 1 ≡ room = omega arith in ap (λ r. d * 4 ^ r + begun_by r ds) e

-- digits of base 4, at most so many, make a number below that power of 4
pub digits_small : (room : ℕ) (ds : List ℕ) → AreDigits ds → length ds ≤ room → begun_by room ds < 4 ^ room
digits_small room [] digits few = omega (arith, one-le-pow room 4 (omega arith))
digits_small zero (d ∷ ds) digits few = absurd (omega arith)
digits_small (suc room) (d ∷ ds) digits few =
    omega (arith, begun-cons room d ds, pow_four-suc room, digit_times-le_four_times d (4 ^ room) digits.0, digits_small room ds digits.1 (omega arith))

-- in room for one digit more, digits make four times the number
pub begun_roomier : (room : ℕ) (ds : List ℕ) → length ds ≤ room → begun_by (suc room) ds ≡ 4 * begun_by room ds
begun_roomier room [] few = omega arith
begun_roomier zero (d ∷ ds) few = absurd (omega arith)
begun_roomier (suc room) (d ∷ ds) few =
    omega (
      arith,
      begun-cons (suc room) d ds,
      begun-cons room d ds,
      ap (λ p. d * p) (pow_four-suc room),
      begun_roomier room ds (omega arith),
    )

digits_from : (ds : List ℕ) (i : ℕ) → AreDigits ds → AreDigits (drop i ds)
digits_from ds i digits = all_right (λ d. d < 4) (take i ds) (drop i ds) (subst AreDigits (sym (take-append-drop i ds)) digits)

-- the number of the digits from a place on, made of that of those behind it
pub record IsSumFrom (ds : List ℕ) (i number unit d : ℕ) : Type 0 where
  pub sum : d * unit + number / 4 ≡ begun_by 64 (drop i ds)
  pub small : d * unit + number / 4 < 4 ^ 64

-- one digit more stands in front
pub digit_sum_with_one_more_in_front : (ds : List ℕ) (i number unit d : ℕ) → i < length ds → length ds ≤ 64 → AreDigits ds
    → number ≡ begun_by 64 (drop (i + 1) ds)
    → unit ≡ 4 ^ 63 → d ≡ get_or ds i 0 → IsSumFrom ds i number unit d
digit_sum_with_one_more_in_front ds i number unit d within few digits e u is = record {
  sum = sum;
  small = subst (λ n. n < 4 ^ 64) (sym sum) (digits_small 64 (drop i ds) (digits_from ds i digits) (omega (arith, length-drop i ds)));
}
  where
    quarter : number / 4 ≡ begun_by 63 (drop (i + 1) ds)
    quarter = omega (arith, e, begun_roomier 63 (drop (i + 1) ds) (omega (arith, length-drop (i + 1) ds)))

    sum : d * unit + number / 4 ≡ begun_by 64 (drop i ds)
    sum = ap (λ n. d * unit + n) quarter ∙ ap (λ z. d * z + begun_by 63 (drop (i + 1) ds)) u
        ∙ ap (λ z. z * 4 ^ 63 + begun_by 63 (drop (i + 1) ds)) is ∙ sym (begun-cons 63 (get_or ds i 0) (drop (i + 1) ds))
        ∙ sym (ap (begun_by 64) (drop_more ds i 0 within))

-- one digit more stands in front of a number's digits
pub digit_before : (d n unit : ℕ) (ds : List ℕ) → length ds ≤ 63 → unit ≡ 4 ^ 63 → n ≡ begun_by 64 ds → d * unit + n / 4 ≡ begun_by 64 (d ∷ ds)
digit_before d n unit ds few u e =
    let quarter : n / 4 ≡ begun_by 63 ds = omega (arith, e, begun_roomier 63 ds few) in
    ap (λ z. d * z + n / 4) u ∙ ap (λ z. d * 4 ^ 63 + z) quarter ∙ sym (begun-cons 63 d ds)
