-- Words packed into numbers: from the top of 128 bits, four bits for the count of each move, less one, and two for each
-- of its signs. The numbers of legal words of one order compare as the words do.
-- Example (PackedExamples): 2u.1 has the digits 0, 1, 2 and 0, 0, so it is 1 * 4^62 + 2 * 4^61.
use Rattle.std.specs.List.{AllByRecursion, flat_map}
use Rattle.std.specs.Prelude.{List, [], map, ℕ, ◌%◌, ◌*◌, ◌+◌, ◌-◌, ◌/◌, ◌<◌, ◌^◌, ◌∷◌}
use Rattle.bk_word.specs.Word.{Move, Word, sign_place}
use Rattle.bk_packed.specs.declared.digits.TheConstants.{MOST_DIGITS}

-- the digits of a move, each below 4: two for its count less one, and one for each sign, the place in above, even,
-- under
abbrev pub move_digits : Move → List ℕ
move_digits m = (m.count - 1) / 4 ∷ (m.count - 1) % 4 ∷ map sign_place m.signs

abbrev pub word_digits : Word → List ℕ
word_digits w = flat_map move_digits w

abbrev pub AreDigits : List ℕ → Type 0
AreDigits ds = AllByRecursion (λ d. d < 4) ds

-- the number of so many digits of base 4 that begins with these, while those behind are 0
abbrev pub begun_by : ℕ → List ℕ → ℕ
begun_by room [] = 0
begun_by room (d ∷ ds) = d * 4 ^ (room - 1) + begun_by (room - 1) ds

abbrev pub packed : Word → ℕ
packed w = begun_by MOST_DIGITS (word_digits w)

-- the digit of a number at a place, from the first of 64
abbrev pub digit_at : ℕ → ℕ → ℕ
digit_at number place = number / 4 ^ (MOST_DIGITS - 1 - place) % 4
