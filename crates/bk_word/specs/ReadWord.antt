-- When the text of a word is refused.
-- Example (WordItemExamples): two moves of 101 squares each are refused as Many, since the order is 202.
use Rattle.std.specs.Prelude.{List, length, ℕ, ◌<◌, ◌≤◌}
use Rattle.bk_word.specs.StoredWord.{stored}
use Rattle.bk_word.specs.Word.{Word, order_of}
use Rattle.bk_word.specs.WordText.{IsNoWordText, IsTextOf}
use Rattle.bk_word.specs.declared.reading.WordFault.{WordFault}
use Rattle.bk_word.specs.declared.reading.WordFault.TheVariants.{Many, NoMemory, Text}
use Rattle.bk_word.specs.declared.TheConstants.{INLINE_BYTES, INLINE_ORDER, LARGEST_ORDER}

-- why bytes are refused: they leave the grammar of words behind `at` bytes; or they are the text of a word, of more
-- than 200 squares; or of one that is to take memory, of more squares and more bytes than a word that takes none
abbrev pub IsWordFaultOf : WordFault → List ℕ → Type 0
IsWordFaultOf (Text at) bytes = IsNoWordText bytes at
IsWordFaultOf Many bytes = (w : Word) × IsTextOf bytes w × (LARGEST_ORDER < order_of w)
IsWordFaultOf NoMemory bytes =
    (w : Word) × IsTextOf bytes w × (INLINE_ORDER < order_of w) × (order_of w ≤ LARGEST_ORDER)
    × (INLINE_BYTES < length (stored w))
