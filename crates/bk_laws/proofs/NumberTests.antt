-- What the tests of numbers tell: of equality, of less, and of at most.
use Rattle.std.specs.Cmp.{both_ways}
use Rattle.std.proofs.Common.{arith, false, inl, inr, leb-true, nat_eq, nat_le, nat_lt, suc, true, ℕ, ◌&&◌, ◌+◌, ◌-◌, ◌<◌, ◌==◌, ◌||◌, ◌↔◌}
use Rattle.std.proofs.Common.{◌≡◌, ◌≤◌, ◌⊎◌}
use Rattle.std.proofs.lemmas.Bool.{and_from, and_parts, cases_eq, cases_lt, eq-eqb, eqb-true, ne_eqb}
use Rattle.std.proofs.lemmas.Bool.Decides.{nat_tests}

-- a number that the test finds to be 4 is 4
pub eq_four-from_test : (n : ℕ) → (n == 4) ≡ true → n ≡ 4
eq_four-from_test n e = grind (arith, nat_tests)

-- a successor isn't found to be 0
pub nat_eq-suc_zero_or_false : (m : ℕ) → nat_eq (suc m) 0 || false ≡ true → ⊥
nat_eq-suc_zero_or_false m e = grind (arith, nat_tests)

-- a number of at most another that the test finds to differ is less
pub lt-from_le_and_nat_eq : (p n : ℕ) → p ≤ n → nat_eq p n ≡ false → p < n
lt-from_le_and_nat_eq p n within e = grind (arith, nat_tests)

-- a number that the test finds to be at most one is found to be at most a greater one
pub nat_le-weaken : (top k n : ℕ) → k ≤ n → nat_le top k ≡ true → nat_le top n ≡ true
nat_le-weaken top k n h e = grind (arith, nat_tests)

-- two pairs of numbers in order pass the test of both
pub nat_le-both_of_le : (a b c d : ℕ) → a ≤ b → c ≤ d → (nat_le a b && nat_le c d) ≡ true
nat_le-both_of_le a b c d h k = grind (arith, nat_tests)

-- two pairs of numbers of which the second isn't in order fail the test of both
pub nat_le-not_both : (a b c d : ℕ) → d < c → (nat_le a b && nat_le c d) ≡ false
nat_le-not_both a b c d h = grind (arith, nat_tests)

-- a positive number is not found to be 0
pub nat_eq-not_zero : (n : ℕ) → 0 < n → nat_eq n 0 ≡ false
nat_eq-not_zero n h = grind (arith, nat_tests)

-- of two numbers of which one is less, the test of equality fails
pub nat_eq-of_less_or_greater : (m n : ℕ) → (m < n) ⊎ (n < m) → nat_eq m n ≡ false
nat_eq-of_less_or_greater m n h = grind (arith, nat_tests)

-- counted back from the end w, n places from a on begin at the start where they ended at the end
pub eq_test-counted_back_start : (w a n : ℕ) → a + n ≤ 0 + w → (w - a - n == 0) ≡ (a + n == w)
eq_test-counted_back_start w a n h = both_ways (w - a - n == 0) (a + n == w) (λ e. grind (arith, nat_tests)) (λ e. grind (arith, nat_tests))

-- counted back from the end w, n places from a on end at the end where they began at the start
pub eq_test-counted_back_end : (w a n : ℕ) → a + n ≤ 0 + w → (w - a - n + n == w) ≡ (a == 0)
eq_test-counted_back_end w a n h = both_ways (w - a - n + n == w) (a == 0) (λ e. grind (arith, nat_tests)) (λ e. grind (arith, nat_tests))

-- two pairs of numbers that pass the test of both are equal
pub both_equal-from_test : (a b c d : ℕ) → ((a == b) && (c == d)) ≡ true → (a ≡ b) × (c ≡ d)
both_equal-from_test a b c d e = (grind (arith, nat_tests), grind (arith, nat_tests))

-- what a test of one pair for equality and of a number between two tells
pub equal_and_between-from_test : (a b c d e : ℕ) → ((a == b) && (nat_lt c d && nat_lt d e)) ≡ true → (a ≡ b) × (c < d) × (d < e)
equal_and_between-from_test a b c d e f = (grind (arith, nat_tests), grind (arith, nat_tests), grind (arith, nat_tests))

-- an equal pair, and a number between two, pass the test of both
pub equal_and_between-to_test : (a b c d e : ℕ) → a ≡ b → c < d → d < e → ((a == b) && (nat_lt c d && nat_lt d e)) ≡ true
equal_and_between-to_test a b c d e f g h = grind (arith, nat_tests)

-- two numbers of which both or none is a third pass its test alike
pub nat_eq-same_of_iff : (x y c : ℕ) → (x ≡ c) ↔ (y ≡ c) → nat_eq x c ≡ nat_eq y c
nat_eq-same_of_iff x y c iff = cases (cases_eq x c) (cases_eq y c)
  where
    both : x ≡ c → y ≡ c → nat_eq x c ≡ nat_eq y c
    both e f = grind (arith, nat_tests)

    none : (x ≡ c → ⊥) → (y ≡ c → ⊥) → nat_eq x c ≡ nat_eq y c
    none e f = grind (arith, nat_tests)

    cases : (x ≡ c) ⊎ (x ≡ c → ⊥) → (y ≡ c) ⊎ (y ≡ c → ⊥) → nat_eq x c ≡ nat_eq y c
    cases (inl e) f = both e (iff.0 e)
    cases (inr e) (inl f) = absurd (e (iff.1 f))
    cases (inr e) (inr f) = none e f

-- two numbers are equal and pass the test, or differ and fail it
pub eq_test-cases : (x y : ℕ) → ((x ≡ y) × ((x == y) ≡ true)) ⊎ ((x ≡ y → ⊥) × ((x == y) ≡ false))
eq_test-cases x y = cases (cases_lt x y) (cases_lt y x)
  where
    cases : (x < y) ⊎ (y ≤ x) → (y < x) ⊎ (x ≤ y) → ((x ≡ y) × ((x == y) ≡ true)) ⊎ ((x ≡ y → ⊥) × ((x == y) ≡ false))
    cases (inl h) k = let differ : x ≡ y → ⊥ = λ e. omega arith in inr (differ, ne_eqb x y differ)
    cases (inr h) (inl k) = let differ : x ≡ y → ⊥ = λ e. omega arith in inr (differ, ne_eqb x y differ)
    cases (inr h) (inr k) = let same : x ≡ y = omega arith in inl (same, eq-eqb x y same)

-- a number above 10 isn't found to be 10
pub eq_ten-not_above : (b : ℕ) → 10 < b → (b == 10) ≡ false
eq_ten-not_above b h = grind (arith, nat_tests)

-- two pairs of equal numbers pass the test of both
pub both_equal-to_test : (a b c d : ℕ) → a ≡ b → c ≡ d → (a == b) && (c == d) ≡ true
both_equal-to_test a b c d e f = and_from (a == b) (c == d) (eq-eqb a b e) (eq-eqb c d f)

-- a number that the test finds not to be 0 is positive
pub positive-from_zero_test : (n : ℕ) → false ≡ (n == 0) → 0 < n
positive-from_zero_test n e = grind (arith, nat_tests)

-- a byte that the tests find from 49 to 57 is a positive digit and 48
pub digit_byte-positive : (b : ℕ) → nat_le 49 b && nat_le b 57 ≡ true → (0 < b - 48) × (b - 48 < 10) × (b ≡ 48 + (b - 48))
digit_byte-positive b h =
    let parts = and_parts (nat_le 49 b) (nat_le b 57) h in
    let low = leb-true 49 b parts.0 in
    let high = leb-true b 57 parts.1 in
    (omega arith, omega arith, omega arith)

-- a test of order of two numbers, both greater by d, is that of the numbers
pub nat_le-shifted : (a i d : ℕ) → nat_le (a + d) (i + d) ≡ nat_le a i
nat_le-shifted a i d = grind (arith, nat_tests)

-- a test whether a number is below the end of a range, both moved by d, is that of the number and the range
pub nat_lt-shifted : (i a s d : ℕ) → nat_lt (i + d) ((a + d) + s) ≡ nat_lt i (a + s)
nat_lt-shifted i a s d = grind (arith, nat_tests)

-- a byte that the tests find from 48 to 57 is a digit and 48
pub digit_byte-from_test : (b : ℕ) → nat_le 48 b && nat_le b 57 ≡ true → (b ≡ 48 + (b - 48)) × (b - 48 < 10)
digit_byte-from_test b h =
    let parts = and_parts (nat_le 48 b) (nat_le b 57) h in
    (omega (arith, leb-true 48 b parts.0), omega (arith, leb-true b 57 parts.1))

-- two tests of numbers for equality are one if one passes where the other does
pub eq_test-of_iff : (a b c d : ℕ) → (a ≡ b) ↔ (c ≡ d) → (a == b) ≡ (c == d)
eq_test-of_iff a b c d e =
    both_ways (a == b) (c == d) (λ f. eq-eqb c d (e.0 (eqb-true a b f))) (λ f. eq-eqb a b (e.1 (eqb-true c d f)))
