-- Lines as a word tells them, by numbers: 0 and 1 are the walls, and each gap between two squares of a move has a
-- number of its own. They stand for the lines of the layout. A statement alone; it is proved apart.
-- Example (NodeCutExamples): in 3aa.2ue.1ea the squares stand between the lines 0, 2; 2, 3; 3, 1; 0, 5; 5, 2; 5, 3.
use Rattle.std.specs.Prelude.{List, Some, [], length, map, slice_get, slice_index_or, suc, zero, ℕ, ◌++◌, ◌-◌, ◌∷◌, ◌≡◌}
use Rattle.bk_word.specs.Outline.{Outline, start, valley_of}
use Rattle.bk_word.specs.Play.{after_move}
use Rattle.bk_word.specs.Word.{Move, Word}
use Rattle.bk_layout.specs.Layout.{Fits, Layout}
use Rattle.bk_layout.specs.LayoutLaws.{IsWordOfLayout}

-- the lines at both sides of each square of a row, of which the first has the place `hung`; `left` and `right` are
-- those at the ends of the row. The gap behind the square at place k, counted from 0, has the number k + 2
abbrev pub new_sides : ℕ → ℕ → ℕ → ℕ → List (ℕ × ℕ)
new_sides hung zero left right = []
new_sides hung (suc zero) left right = (left, right) ∷ []
new_sides hung (suc (suc more)) left right = (left, suc (suc hung)) ∷ new_sides (suc hung) (suc more)
    (suc (suc hung)) right

-- the lines of a square, by its number from 1
abbrev pub sides_at : List (ℕ × ℕ) → ℕ → ℕ × ℕ
sides_at sides number = slice_index_or sides (number - 1) (0, 1)

-- the lines at both ends of a segment, which are the walls where it has no square
abbrev pub left_end : List (ℕ × ℕ) → List ℕ → ℕ
left_end sides [] = 0
left_end sides (number ∷ numbers) = (sides_at sides number).0

abbrev pub right_end : List (ℕ × ℕ) → List ℕ → ℕ
right_end sides [] = 1
right_end sides (number ∷ []) = (sides_at sides number).1
right_end sides (number ∷ next ∷ numbers) = right_end sides (next ∷ numbers)

abbrev pub sides_after : Outline → List (ℕ × ℕ) → Move → List (ℕ × ℕ)
sides_after o sides m = sides
    ++ new_sides (length o.hung) m.count (left_end sides (valley_of o)) (right_end sides (valley_of o))

abbrev pub sides_along : Outline → List (ℕ × ℕ) → Word → List (ℕ × ℕ)
sides_along o sides [] = sides
sides_along o sides (m ∷ moves) = sides_along (after_move o m) (sides_after o sides m) moves

-- the lines of each square of the word
abbrev pub square_lines : Word → List (ℕ × ℕ)
square_lines w = sides_along start [] w

-- the lines at the left of the word's squares
abbrev pub lefts_of : Word → List ℕ
lefts_of w = map (λ s. s.0) (square_lines w)

-- the line of the layout for which a number stands
abbrev pub numbered_line : Layout → (ℕ → ℕ) → ℕ → ℕ
numbered_line l square zero = 0
numbered_line l square (suc zero) = 1
numbered_line l square (suc (suc place)) = l.right (square place)

abbrev pub LineNumbersAreLines : Type 0
LineNumbersAreLines = (l : Layout) (w : Word) → Fits l → (word : IsWordOfLayout l w) → (k f g : ℕ)
    → slice_get (square_lines w) k ≡ Some (f, g)
    → (l.left (word.square k) ≡ numbered_line l word.square f)
    × (l.right (word.square k) ≡ numbered_line l word.square g)
