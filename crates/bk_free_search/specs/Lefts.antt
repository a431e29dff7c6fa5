-- The line at the left edge of each square of a word, by its number.
use Rattle.std.specs.Prelude.{List, [], slice_index_or, ℕ, ◌-◌, ◌∷◌, ◌≡◌}
use Rattle.bk_word.specs.Play.{IsLegal}
use Rattle.bk_word.specs.Word.{Word}
use Rattle.bk_layout.specs.LineNumbers.{lefts_of}

-- the line at the left of the first of these squares, by their numbers from 1: the left wall where there are none
abbrev pub first_left : List ℕ → List ℕ → ℕ
first_left lefts [] = 0
first_left lefts (number ∷ numbers) = slice_index_or lefts (number - 1) 0

-- the word is legal, and these are the lines at the left of its squares
pub record IsLeftWord (w : Word) (lefts : List ℕ) : Type 0 where
  pub legal : IsLegal w
  pub lefts_are : lefts ≡ lefts_of w
