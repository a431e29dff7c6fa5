-- A text that begins as a number does is read as the number just where it is what is written of it.
use Rattle.std.specs.Prelude.{List, Ok, Result, decimal, length, slice_index, ℕ, ◌<◌, ◌^◌, ◌≡◌, ◌≢◌}
use Rattle.std.specs.Result.{OkIff}
use Rattle.std.specs.Str.Parse.{AllDigits, ParsesUnsigned, digits_value}
use Rattle.std.proofs.Common.{ap, arith, inl, inr, subst, sym, ◌∙◌}
use Rattle.std.proofs.lemmas.Fmt.{decimal-digits_value, decimal_digit, decimal_is_IsNumeral, decimal_nonempty, first_decimal}
use Rattle.std.proofs.lemmas.Str.Parse.{IsNumeralModel, digit_at, numerals_by_value, parse_plain, tells_digits}
use Rattle.bk_laws.proofs.NumberOrder.{zero_or_positive}
use Rattle.bk_ask.specs.OptionValues.{BeginsNumber}

own : IsNumeralModel (AllDigits 10) (digits_value 10)
own = numerals_by_value (AllDigits 10) tells_digits

-- no sign stands before it
no_sign : (bytes : List ℕ) → BeginsNumber bytes → slice_index bytes 0 ≢ 43
no_sign bytes begins = elim begins [
  | inl zero ↦ (λ plus. omega (arith, ap (λ (b : List ℕ). slice_index b 0) zero))
  | inr digit ↦ (λ plus. omega (arith, digit.0))
]

one_zero : (bytes : List ℕ) → BeginsNumber bytes → slice_index bytes 0 ≡ 48 → length bytes ≡ 1
one_zero bytes begins first = elim begins [
  | inl zero ↦ ap length zero
  | inr digit ↦ absurd (omega (arith, digit.0))
]

-- bytes that begin a number and are read as n are the digits of n
pub text_of_read : {E : Type 0} (bytes : List ℕ) (n : ℕ) → BeginsNumber bytes → (r : Result ℕ E) → r ≡ Ok n → ParsesUnsigned 64 10 bytes r → bytes ≡ decimal n
text_of_read {E} bytes n begins r is parses =
    let read : OkIff {E = E} (Ok n) (AllDigits 10 bytes × (0 < length bytes) × (digits_value 10 bytes < 2 ^ 64)) (digits_value 10 bytes) =
    parse_plain own {E = E} 64 bytes (Ok n) (subst (λ (o : Result ℕ E). ParsesUnsigned 64 10 bytes o) is parses) (no_sign bytes begins) in
    sym (ap decimal read.1 ∙ decimal-digits_value own bytes read.0.0 read.0.1 (one_zero bytes begins) read.0.2)

-- the digits of a number are `0`, or begin with another digit
pub text_begins : (bytes : List ℕ) (n : ℕ) → n < 2 ^ 64 → bytes ≡ decimal n → BeginsNumber bytes
text_begins bytes n fits text = elim (zero_or_positive n) [
  | inl none ↦ inl (text ∙ ap decimal none ∙ decimal_digit 0 (omega arith))
  | inr some ↦
      let first : slice_index bytes 0 ≡ slice_index (decimal n) 0 = ap (λ (b : List ℕ). slice_index b 0) text in
      let digits = decimal_is_IsNumeral n fits in
      let range = digit_at (decimal n) 0 digits.0.1 (decimal_nonempty n fits) in
      inr (omega (arith, first_decimal n some fits), omega (arith, range.1))
]
