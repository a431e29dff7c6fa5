-- What is kept of a board to take its next move back.
-- Example (BoardExamples): before the last move of 3aa.2ue.1ea it is that of 3aa.2ue: the first move hangs three
-- squares, two lie at the left wall, and one at the right one.
use Rattle.std.specs.Prelude.{◌≡◌}
use Rattle.bk_word.specs.Word.{Word}
use Rattle.bk_play.specs.SmallSkeleton.{IsOutlineOf}
use Rattle.bk_layout.specs.WordNumbers.{first_count, left_squares, right_squares}
use Rattle.bk_free_search.specs.declared.board.BoardOutline.{BoardOutline}

-- what is kept of a board: the outline of its skeleton, how many squares the first move hangs, and how many lie at the
-- left wall and at the right one
pub record IsBoardOutline (w : Word) (o : BoardOutline) : Type 0 where
  pub skel : IsOutlineOf w o.skel
  pub first_is : o.first ≡ first_count w
  pub left_is : o.left ≡ left_squares w
  pub right_is : o.right ≡ right_squares w
