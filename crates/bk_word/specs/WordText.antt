-- The text of a word.
-- Example (WordExamples): the text of the word of [5,3][2,1][1] is 2u.2eu.1e, that of one square 1.
use Rattle.std.specs.List.{AllByRecursion, join_with_byte}
use Rattle.std.specs.Prelude.{List, decimal, length, map, min, ℕ, ◌++◌, ◌+◌, ◌<◌, ◌≡◌, ◌≤◌}
use Rattle.bk_grammar.specs.Longest.{LeavesAt}
use Rattle.bk_word.specs.KeptWord.{CanStand}
use Rattle.bk_word.specs.Word.{Move, Word, order_of}
use Rattle.bk_word.specs.declared.Sign.{Sign}
use Rattle.bk_word.specs.declared.TheConstants.{LARGEST_ORDER}
use Rattle.bk_word.specs.declared.Sign.TheVariants.{Above, Even, Under}

-- the letter of a sign: a, e or u
abbrev pub letter : Sign → ℕ
letter Above = 97
letter Even = 101
letter Under = 117

-- the text of a move: the count, then the letters of its signs
abbrev pub move_text : Move → List ℕ
move_text m = decimal m.count ++ map letter m.signs

-- the text of a word: that of each move, with a dot between each two
abbrev pub word_text : Word → List ℕ
word_text w = join_with_byte 46 (map move_text w)

-- a move that a text can hold: one that can stand in a word, with a count of one to three digits
pub record IsWrittenMove (m : Move) : Type 0 where
  pub stands : CanStand m
  pub digits : m.count ≤ 999

-- the grammar of words: the bytes are the text of this word, which has at least one move
pub record IsTextOf (bytes : List ℕ) (w : Word) : Type 0 where
  pub some : 0 < length w
  pub moves : AllByRecursion IsWrittenMove w
  pub text : bytes ≡ word_text w

-- the bytes are the text of some word
abbrev pub IsWordText : List ℕ → Type 0
IsWordText bytes = (w : Word) × IsTextOf bytes w

-- the bytes are no text of a word, and leave the grammar behind this many bytes
abbrev pub IsNoWordText : List ℕ → ℕ → Type 0
IsNoWordText bytes at = LeavesAt IsWordText bytes at

-- the order of a word as far as the limit: one more than that stands for all that is above
abbrev pub capped_order : Word → ℕ
capped_order w = min (order_of w) (LARGEST_ORDER + 1)
