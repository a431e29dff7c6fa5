-- How the numbers of a layout are read off its word: its moves, its first count, the squares of its last segment, and
-- the squares at the walls, which are those whose lines have the numbers 0 and 1, one for each move at the wall.
-- Statements alone; each is proved apart.
-- Example (NormalExamples): 2u.1e has two moves, of which one is at the left wall and two are at the right wall.
use Rattle.std.specs.Prelude.{Some, [], cond, count_by, length, nat_eq, slice_get, slice_index_or, ℕ, ◌++◌, ◌+◌, ◌∷◌}
use Rattle.std.specs.Prelude.{◌↔◌, ◌≡◌}
use Rattle.bk_word.specs.Outline.{Outline, has_left_wall, has_right_wall, start}
use Rattle.bk_word.specs.Play.{IsLegal, after_move, outline_of}
use Rattle.bk_word.specs.Word.{Move, Word, order_of}
use Rattle.bk_layout.specs.Layout.{Fits, Layout}
use Rattle.bk_layout.specs.LayoutLaws.{IsWordOfLayout}
use Rattle.bk_layout.specs.FreeCuts.{AreOuterWalls}
use Rattle.bk_layout.specs.LineNumbers.{square_lines}
use Rattle.bk_layout.specs.Normal.{Counts}
use Rattle.bk_layout.specs.LayoutCounts.{counts_of_layout}

-- how many squares of the word have line 0, the left wall, at their left
abbrev pub left_squares : Word → ℕ
left_squares w = count_by (λ s. nat_eq s.0 0) (square_lines w)

-- how many squares of the word have line 1, the right wall, at their right
abbrev pub right_squares : Word → ℕ
right_squares w = count_by (λ s. nat_eq s.1 1) (square_lines w)

-- how many squares hang from the top
abbrev pub first_count : Word → ℕ
first_count [] = 0
first_count (m ∷ moves) = m.count

-- the counts of a whole word: its squares and moves, the squares of the first move and of the last segment, and those
-- at the walls
abbrev pub counts_of_word : Word → Counts
counts_of_word w = record {
  squares = order_of w;
  moves = length w;
  top = first_count w;
  bottom = length (slice_index_or (outline_of w).segments 0 []);
  left = left_squares w;
  right = right_squares w;
}

-- the word shows the counts of the layout, and which of its squares stand at the walls
pub record ShowsNumbers (l : Layout) (w : Word) (square : ℕ → ℕ) : Type 0 where
  pub counts : counts_of_word w ≡ counts_of_layout l
  pub at_left : (k f g : ℕ) → slice_get (square_lines w) k ≡ Some (f, g) → (f ≡ 0) ↔ (l.left (square k) ≡ 0)
  pub at_right : (k f g : ℕ) → slice_get (square_lines w) k ≡ Some (f, g) → (g ≡ 1) ↔ (l.right (square k) ≡ 1)

abbrev pub AWordShowsNumbers : Type 0
AWordShowsNumbers = (l : Layout) (w : Word) → Fits l → AreOuterWalls l → (word : IsWordOfLayout l w)
    → ShowsNumbers l w word.square

-- how many moves close a valley at the left wall, and at the right wall
abbrev pub left_moves_from : Outline → Word → ℕ
left_moves_from o [] = 0
left_moves_from o (m ∷ moves) = cond (has_left_wall o) 1 0 + left_moves_from (after_move o m) moves

abbrev pub right_moves_from : Outline → Word → ℕ
right_moves_from o [] = 0
right_moves_from o (m ∷ moves) = cond (has_right_wall o) 1 0 + right_moves_from (after_move o m) moves

abbrev pub left_moves : Word → ℕ
left_moves w = left_moves_from start w

abbrev pub right_moves : Word → ℕ
right_moves w = right_moves_from start w

-- the word has at each wall one square for each move that closes a valley there
pub record HasOneForEachWallMove (w : Word) : Type 0 where
  pub left : left_squares w ≡ left_moves w
  pub right : right_squares w ≡ right_moves w

abbrev pub WallMovesHangOne : Type 0
WallMovesHangOne = (w : Word) → IsLegal w → HasOneForEachWallMove w

-- a move at a wall hangs one square there, and any other move none
pub record HangsAtWalls (front : Word) (m : Move) : Type 0 where
  pub left : left_squares (front ++ m ∷ []) ≡ left_squares front + cond {A = ℕ} (has_left_wall (outline_of front)) 1 0
  pub right : right_squares (front ++ m ∷ [])
      ≡ right_squares front + cond {A = ℕ} (has_right_wall (outline_of front)) 1 0

abbrev pub AMoveHangsAtWalls : Type 0
AMoveHangsAtWalls = (front : Word) (m : Move) → IsLegal (front ++ m ∷ []) → HangsAtWalls front m
