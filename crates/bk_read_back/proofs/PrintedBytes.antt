-- What is printed on a line has no line feed: each of its bytes is greater.
use Rattle.std.specs.List.{AllByRecursion, join_with_byte}
use Rattle.std.specs.Prelude.{List, [], codes, decimal, map, ℕ, ◌++◌, ◌<◌, ◌^◌, ◌∷◌, ◌≤◌}
use Rattle.std.specs.Str.Parse.{AllDigits}
use Rattle.std.proofs.Common.{arith, suc, zero}
use Rattle.std.proofs.lemmas.Fmt.{decimal_is_IsNumeral}
use Rattle.bk_laws.proofs.AllOfLists.{all_append}
use Rattle.bk_laws.proofs.Digits.{digit_value-above_10}
use Rattle.bk_laws.proofs.NumberTests.{eq_ten-not_above}
use Rattle.bk_tiling.specs.KeptTiling.{IsSide}
use Rattle.bk_code.specs.KeptCode.{IsSideGroup}
use Rattle.bk_text.specs.CodeText.{code_text, group_text, size_text}
use Rattle.bk_word.specs.Word.{Word}
use Rattle.bk_word.specs.WordText.{letter, move_text, word_text}
use Rattle.bk_word.specs.declared.Sign.{Sign}
use Rattle.bk_word.specs.declared.Sign.TheVariants.{Above, Even, Under}
use Rattle.bk_ports.proofs.Cuts.{HasNoFeed}

-- all bytes are greater than a line feed
abbrev pub IsPrinted : List ℕ → Type 0
IsPrinted bytes = AllByRecursion (λ b. 10 < b) bytes

-- two printed texts put together are printed
pub both_printed : (xs ys : List ℕ) → IsPrinted xs → IsPrinted ys → IsPrinted (xs ++ ys)
both_printed xs ys a b = all_append (λ b. 10 < b) xs ys a b

digits_printed : (bytes : List ℕ) → AllDigits 10 bytes → IsPrinted bytes
digits_printed [] all = tt
digits_printed (c ∷ bytes) all = (digit_value-above_10 c all.0, digits_printed bytes all.1)

-- the decimal digits of a number below 2^64 are printed
pub decimal_printed : (n : ℕ) → n < 2 ^ 64 → IsPrinted (decimal n)
decimal_printed n small = digits_printed (decimal n) ((decimal_is_IsNumeral n small).0).1

-- pieces with a byte between each two
pub joined_printed : (c : ℕ) → 10 < c → (pieces : List (List ℕ)) → AllByRecursion IsPrinted pieces → IsPrinted (join_with_byte c pieces)
joined_printed c high [] all = tt
joined_printed c high (x ∷ []) all = all.0
joined_printed c high (x ∷ y ∷ pieces) all = both_printed x (c ∷ join_with_byte c (y ∷ pieces)) all.0 (high, joined_printed c high (y ∷ pieces) all.1)

-- a size
pub size_printed : (w h : ℕ) → w < 2 ^ 64 → h < 2 ^ 64 → IsPrinted (size_text w h)
size_printed w h a b = both_printed (decimal w ++ codes "x") (decimal h) (both_printed (decimal w) (codes "x") (decimal_printed w a) (omega arith, tt))
    (decimal_printed h b)

-- a code
sides_printed : (sides : List ℕ) → AllByRecursion IsSide sides → AllByRecursion IsPrinted (map decimal sides)
sides_printed [] all = tt
sides_printed (s ∷ sides) all = (decimal_printed s (omega (arith, (all.0).1)), sides_printed sides all.1)

group_printed : (sides : List ℕ) → AllByRecursion IsSide sides → IsPrinted (group_text sides)
group_printed sides all = (
  omega arith,
  both_printed (join_with_byte 44 (map decimal sides)) (codes "]") (joined_printed 44 (omega arith) (map decimal sides) (sides_printed sides all))
      (omega arith, tt),
)

-- the text of a code of groups of sides is printed
pub code_printed : (code : List (List ℕ)) → AllByRecursion IsSideGroup code → IsPrinted (code_text code)
code_printed [] all = tt
code_printed (g ∷ code) all = both_printed (group_text g) (code_text code) (group_printed g (all.0).1) (code_printed code all.1)

-- a word
letter_high : (s : Sign) → 10 < letter s
letter_high Above = omega arith
letter_high Even = omega arith
letter_high Under = omega arith

letters_printed : (signs : List Sign) → IsPrinted (map letter signs)
letters_printed [] = tt
letters_printed (s ∷ signs) = (letter_high s, letters_printed signs)

moves_printed : (w : Word) → AllByRecursion (λ m. m.count ≤ 200) w → AllByRecursion IsPrinted (map move_text w)
moves_printed [] all = tt
moves_printed (m ∷ w) all = (
  both_printed (decimal m.count) (map letter m.signs) (decimal_printed m.count (omega (arith, all.0))) (letters_printed m.signs),
  moves_printed w all.1,
)

-- the text of a word with counts of at most 200 is printed
pub word_printed : (w : Word) → AllByRecursion (λ m. m.count ≤ 200) w → IsPrinted (word_text w)
word_printed w all = joined_printed 46 (omega arith) (map move_text w) (moves_printed w all)

-- printed bytes have no line feed
pub printed_bytes_have_no_feed : (bytes : List ℕ) → IsPrinted bytes → HasNoFeed bytes
printed_bytes_have_no_feed [] all k within = absurd (omega (arith, within))
printed_bytes_have_no_feed (b ∷ bytes) all zero within = eq_ten-not_above b all.0
printed_bytes_have_no_feed (b ∷ bytes) all (suc k) within = printed_bytes_have_no_feed bytes all.1 k (omega (arith, within))
