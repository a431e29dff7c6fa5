-- How many squares a complete word has at least, by what stands open after its first moves. Statements alone; each is
-- proved apart.
-- Example (BoundExamples): after 2u.2aa two segments must be closed, and one valley has one square: a word that goes on
-- so has at least seven squares.
use Rattle.std.specs.List.{list_any}
use Rattle.std.specs.Prelude.{List, [], length, true, ℕ, ⊤, ◌++◌, ◌+◌, ◌∷◌, ◌≡◌, ◌≤◌}
use Rattle.bk_word.specs.Outline.{Outline, sizes_of, start, valley_of}
use Rattle.bk_word.specs.Play.{IsComplete, after_move, outline_of}
use Rattle.bk_word.specs.Word.{Move, Word, order_of}
use Rattle.bk_catalogue.specs.ClosingBound.{closing_bound}
use Rattle.bk_catalogue.specs.SingleValleys.{single_valleys}
use Rattle.bk_catalogue.specs.VerticalCut.{line_bound_of, edges_on_lines, on_line}

-- after its first moves a complete word hangs at least as many squares as segments must be closed
abbrev pub ClosingsAreHung : Type 0
ClosingsAreHung = (front rest : Word) → IsComplete (front ++ rest)
    → order_of front + closing_bound (outline_of front).signs ≤ order_of (front ++ rest)

-- a move does not hang one square alone from a valley of one square
abbrev pub HangsNoPair : Outline → Move → Type 0
HangsNoPair o m = length (valley_of o) ≡ 1 → m.count ≡ 1 → ⊥

abbrev pub HangNoPairsFrom : Outline → Word → Type 0
HangNoPairsFrom o [] = ⊤
HangNoPairsFrom o (m ∷ moves) = HangsNoPair o m × HangNoPairsFrom (after_move o m) moves

-- a word without pairs: no move of it hangs one square alone from a valley of one square, and one square alone is not
-- its last segment
pub record IsWithoutPairs (w : Word) : Type 0 where
  pub moves : HangNoPairsFrom start w
  pub last : (s : List ℕ) → (outline_of w).segments ≡ s ∷ [] → length s ≡ 1 → ⊥

-- after its first moves a complete word without pairs hangs at least as many squares as segments must be closed, and
-- one more for each valley of one square
abbrev pub SinglesAreHung : Type 0
SinglesAreHung = (front rest : Word) → IsComplete (front ++ rest) → IsWithoutPairs (front ++ rest)
    → order_of front + closing_bound (outline_of front).signs + single_valleys (outline_of front).signs
    (sizes_of (outline_of front))
    ≤ order_of (front ++ rest)

-- no line from the top comes down to the last segment
abbrev pub EndsNoLine : Word → Type 0
EndsNoLine w = (s : List ℕ) → (outline_of w).segments ≡ s ∷ [] → list_any (on_line (edges_on_lines w)) s ≡ true → ⊥

-- after its first moves a complete word without pairs, to whose last segment no line from the top comes down, hangs at
-- least as many squares as the line bound, and one more for each valley of one square
abbrev pub LinesAreHung : Type 0
LinesAreHung = (front rest : Word) → IsComplete (front ++ rest) → IsWithoutPairs (front ++ rest)
    → EndsNoLine (front ++ rest)
    → order_of front + line_bound_of front + single_valleys (outline_of front).signs
    (sizes_of (outline_of front)) ≤ order_of (front ++ rest)
