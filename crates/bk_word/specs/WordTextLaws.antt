-- Laws of the texts of words. Statements alone; each is proved apart.
-- Example (WordExamples): what is written of the staircase, 2u.2eu.1e, is its text; the word of no moves has none.
use Rattle.std.specs.Prelude.{List, length, ℕ, ◌<◌, ◌≡◌}
use Rattle.bk_word.specs.KeptWord.{IsKeptWord}
use Rattle.bk_word.specs.Word.{Word}
use Rattle.bk_word.specs.WordText.{IsTextOf, word_text}

-- no bytes are the text of two words
abbrev pub ATextIsOfOneWord : Type 0
ATextIsOfOneWord = (bytes : List ℕ) (v w : Word) → IsTextOf bytes v → IsTextOf bytes w → v ≡ w

-- what is written of a word is its text
abbrev pub AWrittenWordIsRead : Type 0
AWrittenWordIsRead = (w : Word) → IsKeptWord w → 0 < length w → IsTextOf (word_text w) w
