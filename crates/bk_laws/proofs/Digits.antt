-- Decimal digits: the values of bytes, and numbers as they are written.
use Rattle.std.specs.Char.{digit_value}
use Rattle.std.specs.Prelude.{Err, List, Ok, Result, [], decimal, nat_le, ◌%◌, ◌&&◌, ◌*◌, ◌++◌, ◌-◌, ◌/◌, ◌<◌, ◌^◌, ◌∷◌, ◌≡◌}
use Rattle.std.specs.Str.Parse.{ParsesUnsigned, digits_value_after}
use Rattle.std.proofs.Common.{ap, arith, leb-true, length, true, ℕ, ◌+◌, ◌∙◌, ◌≤◌}
use Rattle.std.proofs.lemmas.Bool.{and_parts}
use Rattle.std.proofs.lemmas.Bool.Decides.{nat_tests}
use Rattle.std.proofs.lemmas.Fmt.{decimal_step, parse-decimal}
use Rattle.std.proofs.lemmas.Grind.{pow_more}
use Rattle.std.proofs.lemmas.Str.{digit_value_digit}
use Rattle.std.proofs.lemmas.Str.Parse.{digit_from_value}
use Rattle.bk_laws.proofs.Multiples.{tenfold-le}

-- the number that is parsed from the decimal digits of a number is that number
pub parsed_number-is_written : {E : Type 0} (bytes : List ℕ) (m n : ℕ) → n < 2 ^ 64 → bytes ≡ decimal n → (r : Result ℕ E) → r ≡ Ok m → ParsesUnsigned 64 10
    bytes r → m ≡ n
parsed_number-is_written bytes m n fits text r is parses =
    let read : r ≡ Ok n = parse-decimal 64 n bytes r fits fits text parses in
    cc

-- the decimal digits of a number below 2^64 are parsed without a fault
pub parsed_number-no_fault : {E : Type 0} (bytes : List ℕ) (n : ℕ) → n < 2 ^ 64 → bytes ≡ decimal n → (r : Result ℕ E) (fault : E) → r ≡ Err fault
    → ParsesUnsigned 64 10 bytes r → ⊥
parsed_number-no_fault bytes n fits text r fault is parses =
    let read : r ≡ Ok n = parse-decimal 64 n bytes r fits fits text parses in
    cc

-- the digit that a byte stands for
pub digit_value-of_byte : (d b : ℕ) → d < 10 → b ≡ 48 + d → digit_value b ≡ d
digit_value-of_byte d b small is = let own : digit_value b + 48 ≡ b = digit_value_digit b (omega arith, omega arith) in omega arith

-- each further digit multiplies the value by at least 10
pub digits_value_after-mul_pow : (v : ℕ) (ds : List ℕ) → v * 10 ^ length ds ≤ digits_value_after 10 v ds
digits_value_after-mul_pow v [] = omega arith
digits_value_after-mul_pow v (d ∷ ds) =
    let next = digits_value_after-mul_pow (v * 10 + digit_value d) ds in
    let more : length (d ∷ ds) ≡ length ds + 1 = omega arith in
    let power : 10 ^ length (d ∷ ds) ≡ 10 ^ length ds * 10 = ap (λ k. 10 ^ k) more ∙ pow_more 10 (length ds) in
    tenfold-le v (digit_value d) (10 ^ length ds) (10 ^ length (d ∷ ds)) (digits_value_after 10 (v * 10 + digit_value d) ds) power next

-- further digits make no value less
pub digits_value_after-le : (v : ℕ) (ds : List ℕ) → v ≤ digits_value_after 10 v ds
digits_value_after-le v [] = omega arith
digits_value_after-le v (d ∷ ds) = omega (arith, digits_value_after-le (v * 10 + digit_value d) ds)

-- the byte of a digit is its value and 48
pub digit_value-add_48 : (b : ℕ) → digit_value b < 10 → digit_value b + 48 ≡ b
digit_value-add_48 b small = digit_value_digit b (digit_from_value b small)

-- a byte from 48 to 57 is the value of its digit and 48
pub digit_value-of_digit_byte : (b : ℕ) → 48 ≤ b → b ≤ 57 → digit_value b + 48 ≡ b
digit_value-of_digit_byte b low high = digit_value_digit b (omega arith, omega arith)

-- a byte that the tests find from 48 to 57 is a digit
pub digit_value-of_test : (b : ℕ) → nat_le 48 b && nat_le b 57 ≡ true → (digit_value b ≡ b - 48) × (digit_value b < 10)
digit_value-of_test b h =
    let parts = and_parts (nat_le 48 b) (nat_le b 57) h in
    let value = digit_value-of_digit_byte b (leb-true 48 b parts.0) (leb-true b 57 parts.1) in
    (omega (arith, value), omega (arith, value, leb-true b 57 parts.1))

-- the byte of a digit is above 10
pub digit_value-above_10 : (c : ℕ) → digit_value c < 10 → 10 < c
digit_value-above_10 c h = grind (arith, nat_tests)

-- ten times a number of one or two digits, and a digit, is written as the number and the digit
pub decimal-one_digit_more : (n d : ℕ) → 0 < n → n < 100 → d < 10 → decimal (n * 10 + d) ≡ decimal n ++ (48 + d) ∷ []
decimal-one_digit_more n d some few small =
    let tens : (n * 10 + d) / 10 ≡ n = omega arith in
    let ones : (n * 10 + d) % 10 ≡ d = omega arith in
    decimal_step (n * 10 + d) (omega arith) (omega arith) ∙ (λ i. decimal (tens i) ++ (48 + ones i) ∷ [])
