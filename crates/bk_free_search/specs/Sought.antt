-- How the words that a search looks for go on.
-- Examples (SoughtExamples): 2u.1e is not sought, since one square hangs under one alone, though it is complete. 2u.2aa
-- goes on from 2u by a move of 2 squares that begins with above.
use Rattle.std.specs.Prelude.{List, Some, length, slice_get, ℕ, ◌++◌, ◌+◌, ◌<◌, ◌∷◌, ◌≡◌, ◌≤◌}
use Rattle.bk_word.specs.Outline.{IsLegalMove}
use Rattle.bk_word.specs.Play.{outline_of}
use Rattle.bk_word.specs.Word.{Move, Word, order_of}
use Rattle.bk_word.specs.declared.Sign.{Sign}
use Rattle.bk_word.specs.declared.Sign.TheVariants.{Above, Even}
use Rattle.bk_word.specs.declared.TheConstants.{LARGEST_LISTED_ORDER}

-- the word goes on from these moves
pub record GoesOn (front w : Word) : Type 0 where
  pub rest : Word
  pub is : w ≡ front ++ rest

-- the word goes on from these moves by a move of this count whose signs begin with these
pub record GoesOnBy (front : Word) (count : ℕ) (signs : List Sign) (w : Word) : Type 0 where
  pub move : Move
  pub rest : Word
  pub is : w ≡ front ++ move ∷ rest
  pub count_is : move.count ≡ count
  pub more : List Sign
  pub signs_are : move.signs ≡ signs ++ more

-- a legal next move after which squares are left, of an order from 3 to 16
pub record IsNextMove (n : ℕ) (front : Word) (m : Move) : Type 0 where
  pub least : 3 ≤ n
  pub most : n ≤ LARGEST_LISTED_ORDER
  pub few : order_of front + m.count < n
  pub legal : IsLegalMove (outline_of front) m

-- a move of two squares or more whose one sign so far is even, and the next one above: no word that keeps rule R has
-- such a move
pub record BeginsEvenThenAbove (m : Move) (sign : Sign) : Type 0 where
  pub two : 1 < m.count
  pub one : length m.signs ≡ 1
  pub even : slice_get m.signs 0 ≡ Some Even
  pub above : sign ≡ Above
