-- A number written in decimal is that number in the grammar.
use Rattle.std.specs.Prelude.{decimal, slice_index, ℕ, ◌<◌, ◌^◌, ◌≤◌}
use Rattle.std.proofs.Common.{arith}
use Rattle.std.proofs.lemmas.Fmt.{decimal_is_IsNumeral, first_decimal, length-decimal-le}
use Rattle.bk_grammar.specs.Grammar.{Number}

-- a number is spelled by its decimal digits
pub number_from_decimal : (most n : ℕ) → 0 < most → most ≤ 18 → 0 < n → n < 10 ^ most → n < 2 ^ 64 → Number most n (decimal n)
number_from_decimal most n some few positive below short =
    let numeral = decimal_is_IsNumeral n short in
    let first : 48 < slice_index (decimal n) 0 = first_decimal n positive short in
    (numeral.0, length-decimal-le most n some below short, (λ e. omega (arith, first, e)), numeral.1)
