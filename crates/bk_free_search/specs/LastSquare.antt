-- The last square of a word. It joins all segments that stand open, so it is even with those at both sides of the
-- leftmost valley.
-- Example (LastSquareExamples): after 2a.2uu.2ea.2eue the leftmost valley is that of the squares 8 and 6, and stands at
-- the right wall. Of nine squares one is left, and 1e ends the word: three squares stand at the bottom then.
use Rattle.std.specs.Prelude.{[], ◌++◌, ◌∷◌}
use Rattle.bk_word.specs.Play.{outline_of}
use Rattle.bk_word.specs.Word.{Word}
use Rattle.bk_layout.specs.LastMoves.{even_square}

-- the word with the last square
abbrev pub with_last : Word → Word
with_last front = front ++ even_square (outline_of front) ∷ []
