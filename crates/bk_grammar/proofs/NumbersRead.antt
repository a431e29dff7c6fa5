-- Digits that were read one by one are a number.
use Rattle.std.specs.Char.{digit_value}
use Rattle.std.specs.Prelude.{List, [], length, ℕ, ◌*◌, ◌+◌, ◌<◌, ◌^◌, ◌∷◌, ◌≡◌, ◌≢◌, ◌≤◌}
use Rattle.std.specs.Str.Parse.{AllDigits, digits_value_after}
use Rattle.std.proofs.lemmas.Int.Digits.{digits_value-lt}
use Rattle.std.proofs.lemmas.Str.Parse.{digit_from_value}
use Rattle.std.proofs.Common.{ap, arith, inl, inr, subst, ◌∙◌}
use Rattle.std.proofs.lemmas.Bool.{cases_lt}
use Rattle.std.proofs.lemmas.Str.{digit_value_digit}
use Rattle.bk_laws.proofs.Digits.{digit_value-of_byte, digits_value_after-le, digits_value_after-mul_pow}
use Rattle.bk_laws.proofs.Multiples.{le-positive_times, pow_ten-rising}
use Rattle.bk_grammar.specs.Grammar.{Number}

-- digits that end a number
abbrev pub Longer : ℕ → ℕ → ℕ → List ℕ → Type 0
Longer greatest value n ds = AllDigits 10 ds × (digits_value_after 10 value ds ≡ n) × (value ≤ greatest → n ≤ greatest)

-- a first digit but 0, and digits that end a number which isn't too great
pub number_read : (most greatest b d n : ℕ) (ds : List ℕ) → greatest < 10 ^ most → d ≤ greatest → 0 < d → d < 10 → b ≡ 48 + d → Longer greatest d n ds
    → Number most n (b ∷ ds)
number_read most greatest b d n ds bound fits some small is longer =
    let value : digit_value b ≡ d = digit_value-of_byte d b small is in
    let few : length ds < most = elim (cases_lt (length ds) most) [
      | inl h ↦ h
      | inr h ↦ absurd (omega (
        arith,
        digits_value_after-mul_pow d ds,
        le-positive_times d (10 ^ length ds) some,
        pow_ten-rising most (length ds) h,
        longer.1,
        longer.2 fits,
      ))
    ] in
    let first : 0 * 10 + digit_value b ≡ d = omega arith in
    let total : digits_value_after 10 (0 * 10 + digit_value b) ds ≡ n = ap (λ v. digits_value_after 10 v ds) first ∙ longer.1 in
    ((omega arith, (omega arith, longer.0)), omega arith, (λ e. omega arith), total)

-- a number begins with a digit but 0, so it isn't 0, and it has few digits
pub number_range : (most n : ℕ) (bs : List ℕ) → Number most n bs → (0 < n) × (n < 10 ^ most)
number_range most n [] h = absurd (omega (arith, h.0.0))
number_range most n (b ∷ ds) ((some, digits), few, first, value) =
    let other : b ≢ 48 = first in
    let own : digit_value b + 48 ≡ b = digit_value_digit b (digit_from_value b digits.0) in
    let grown : 0 * 10 + digit_value b ≤ n = subst (λ (z : ℕ). 0 * 10 + digit_value b ≤ z) value (digits_value_after-le (0 * 10 + digit_value b) ds) in
    let below : n < 10 ^ length (b ∷ ds) = subst (λ (z : ℕ). z < 10 ^ length (b ∷ ds)) value (digits_value-lt 10 (b ∷ ds) digits) in
    (omega (arith, own, other, grown), omega (arith, below, pow_ten-rising (length (b ∷ ds)) most few))
