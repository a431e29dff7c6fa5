-- Which words a `Word` can be: those of at most 200 squares, whose moves have about as many signs as squares.
-- Example (WordExamples): 2aue can stand in a word, and 2 cannot.
use Rattle.std.specs.List.{AllByRecursion}
use Rattle.std.specs.Prelude.{length, ◌+◌, ◌<◌, ◌≤◌}
use Rattle.bk_word.specs.Word.{Move, Word, order_of}
use Rattle.bk_word.specs.declared.TheConstants.{LARGEST_ORDER}

-- a move that can stand in a word: it hangs a square, and has one sign less than squares, as many or one more
pub record CanStand (m : Move) : Type 0 where
  pub some : 0 < m.count
  pub least : m.count ≤ length m.signs + 1
  pub most : length m.signs ≤ m.count + 1

-- what holds of each `Word`
pub record IsKeptWord (w : Word) : Type 0 where
  pub moves : AllByRecursion CanStand w
  pub few : order_of w ≤ LARGEST_ORDER
