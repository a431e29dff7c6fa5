-- What a board keeps of the moves that are played on it.
-- Example (BoardExamples): the board of 3aa.2ue.1ea keeps the lefts 0, 2, 3, 0, 5, 5, the rights 2, 3, 1, 5, 2, 3, and
-- of its three nodes the lines 0, 2, 3, 1; 0, 2, 5; 5, 2, 3. Its first move hangs three squares, two lie at the left
-- wall, and one at the right one.
use Rattle.std.specs.Prelude.{List, ℕ, ◌≡◌}
use Rattle.bk_word.specs.Word.{Word}
use Rattle.bk_free_search.specs.Lefts.{IsLeftWord}
use Rattle.bk_free_search.specs.NodeLines.{AreNodeLines}
use Rattle.bk_free_search.specs.Rights.{rights_of}
use Rattle.bk_layout.specs.WordNumbers.{first_count, left_squares, right_squares}
use Rattle.bk_free_search.specs.declared.line_set.LineSet.{LineSet}

-- the left and the right lines of the squares, the lines that each closed node touches, how many squares the first move
-- hangs, and how many lie at the left wall and at the right one
pub record BoardLists : Type 0 where
  pub lefts : List ℕ
  pub rights : List ℕ
  pub nodes : List LineSet
  pub first : ℕ
  pub left : ℕ
  pub right : ℕ

-- the lists and numbers of a board are those of the word
pub record IsBoardOf (w : Word) (b : BoardLists) : Type 0 where
  pub left_word : IsLeftWord w b.lefts
  pub rights_are : b.rights ≡ rights_of w
  pub node_lines : AreNodeLines w b.nodes
  pub first_is : b.first ≡ first_count w
  pub left_is : b.left ≡ left_squares w
  pub right_is : b.right ≡ right_squares w
