-- How a word is stored: a byte for the count of each move, and behind it a byte for each of its signs. Counts are below
-- 201, so a byte tells what it is, and the bytes of two words compare as the words do.
-- Example (WordExamples): 2e.1 is stored as the bytes 2, 202, 1, and these bytes are read as that word.
use Rattle.std.specs.Prelude.{Bool, List, [], cond, decimal, flat_map, map, nat_lt, ℕ, ◌∷◌, ◌==◌, ◌≡◌, ◌≤◌}
use Rattle.bk_word.specs.KeptWord.{IsKeptWord}
use Rattle.bk_word.specs.Word.{Move, Word}
use Rattle.bk_word.specs.WordText.{letter}
use Rattle.bk_word.specs.declared.Sign.{Sign}
use Rattle.bk_word.specs.declared.Sign.TheVariants.{Above, Even, Under}
use Rattle.bk_word.specs.declared.TheConstants.{INLINE_BYTES}

-- the byte of a sign
abbrev pub sign_byte : Sign → ℕ
sign_byte Above = 201
sign_byte Even = 202
sign_byte Under = 203

-- the bytes of a move
abbrev pub stored_move : Move → List ℕ
stored_move m = m.count ∷ map sign_byte m.signs

-- the bytes of a word
abbrev pub stored : Word → List ℕ
stored w = flat_map stored_move w

-- the byte is that of a count
abbrev pub is_count : ℕ → Bool
is_count b = nat_lt b 201

-- the sign that a byte stands for
abbrev pub sign_of : ℕ → Sign
sign_of b = cond (b == 201) Above (cond (b == 202) Even Under)

-- the signs before the first count
abbrev pub leading_signs : List ℕ → List Sign
leading_signs [] = []
leading_signs (b ∷ bytes) = cond (is_count b) [] (sign_of b ∷ leading_signs bytes)

-- the word that is stored
abbrev pub word_in : List ℕ → Word
word_in [] = []
word_in (b ∷ bytes) =
    cond (is_count b) (record { count = b; signs = leading_signs bytes } ∷ word_in bytes) (word_in bytes)

-- what is written of a byte, where it isn't the first
abbrev pub piece : ℕ → List ℕ
piece b = cond (is_count b) (46 ∷ decimal b) (letter (sign_of b) ∷ [])

-- the bytes are those of a word that can be kept
pub record IsStoredWord (bytes : List ℕ) : Type 0 where
  pub same : bytes ≡ stored (word_in bytes)
  pub kept : IsKeptWord (word_in bytes)

-- the bytes of a word that can be kept stand in a buffer of so many bytes, which has at least those that need no memory
pub record IsKeptBuffer (bytes : List ℕ) (capacity : ℕ) : Type 0 where
  pub stored : IsStoredWord bytes
  pub room : INLINE_BYTES ≤ capacity
