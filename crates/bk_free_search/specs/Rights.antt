-- The line at the right edge of each square of a word, by its number.
use Rattle.std.specs.Prelude.{List, [], map, slice_index_or, ℕ, ◌-◌, ◌∷◌}
use Rattle.bk_word.specs.Word.{Word}
use Rattle.bk_layout.specs.LineNumbers.{square_lines}

abbrev pub rights_of : Word → List ℕ
rights_of w = map (λ s. s.1) (square_lines w)

-- the line at the right of the last of these squares, by their numbers from 1: the right wall where there are none
abbrev pub last_right : List ℕ → List ℕ → ℕ
last_right rights [] = 1
last_right rights (number ∷ []) = slice_index_or rights (number - 1) 1
last_right rights (number ∷ next ∷ numbers) = last_right rights (next ∷ numbers)
