-- A word is read back from its number, move by move.
-- Example (ReadingExamples): the number of 2u.1 has from the place 0 on the digits 0, 1, 2 of 2u, and from 3 on 0, 0.
-- The words 2u.1 and 2u.2aa begin with one move alike, and not with two.
use Rattle.std.specs.Prelude.{List, length, slice_index, take, ℕ, ◌++◌, ◌+◌, ◌<◌, ◌∷◌, ◌≡◌, ◌≤◌}
use Rattle.bk_word.specs.Play.{IsLegal}
use Rattle.bk_word.specs.Word.{Move, Word, order_of}
use Rattle.bk_packed.specs.Packed.{digit_at, packed}
use Rattle.bk_word.specs.declared.TheConstants.{LARGEST_LISTED_ORDER}

-- the number has these digits from the place on
abbrev pub HasDigits : ℕ → ℕ → List ℕ → Type 0
HasDigits number place digits = (k : ℕ) → k < length digits → digit_at number (place + k) ≡ slice_index digits k

-- the number is that of a legal word of at most 16 squares that goes on from these moves
pub record GoesOnByNumber (front : Word) (number : ℕ) : Type 0 where
  pub next : Move
  pub rest : Word
  pub legal : IsLegal (front ++ next ∷ rest)
  pub few : order_of (front ++ next ∷ rest) ≤ LARGEST_LISTED_ORDER
  pub is : packed (front ++ next ∷ rest) ≡ number

-- the word w begins with so many moves of v, and not with one more
pub record IsSharedFront (v w : Word) (moves : ℕ) : Type 0 where
  pub rest : Word
  pub is : w ≡ take moves v ++ rest
  pub most : moves < length v → (more : Word) → w ≡ take (moves + 1) v ++ more → ⊥
