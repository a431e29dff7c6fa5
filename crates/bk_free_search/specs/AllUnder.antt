-- What stands after a next move, by numbers that are known before it is played.
-- Example (AllUnderExamples): 2u, the first move of a word, leaves two squares at the top, one at each wall, and one
-- sign, which is under. A normal word of four squares has two moves at most, so one is left. It would close the right
-- segment by one square, and then one segment would be left, with a square to come: no word of four squares begins with
-- 2u.
use Rattle.std.specs.Prelude.{[], length, ◌++◌, ◌∷◌, ◌≡◌}
use Rattle.bk_word.specs.Play.{outline_of}
use Rattle.bk_word.specs.Word.{Move, Word}
use Rattle.bk_layout.specs.WordNumbers.{first_count, left_squares, right_squares}
use Rattle.bk_free_search.specs.declared.all_under.After.{After}

pub record StandsAfter (front : Word) (m : Move) (after : After) : Type 0 where
  pub top_is : after.top ≡ first_count (front ++ m ∷ [])
  pub left_is : after.left ≡ left_squares (front ++ m ∷ [])
  pub right_is : after.right ≡ right_squares (front ++ m ∷ [])
  pub signs_are : after.signs ≡ length (outline_of (front ++ m ∷ [])).signs
