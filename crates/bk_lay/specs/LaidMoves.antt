-- The moves by which the code lays a tiling, one after another.
-- Example (LevelRunExamples): the outline of 65x47 after its first move, of the squares 25, 17 and 23.
use Rattle.std.specs.Prelude.{List, [], length, ◌++◌, ◌+◌, ◌∷◌, ◌≤◌}
use Rattle.bk_tiling.specs.Tiling.{Tiling}
use Rattle.bk_tiling.specs.declared.Square.{Square}
use Rattle.bk_word.specs.KeptWord.{CanStand}
use Rattle.bk_word.specs.Word.{Move, Word, order_of}
use Rattle.bk_lay.specs.Depiction.{FillsFromTop}
use Rattle.bk_lay.specs.LevelRuns.{IsOutline}
use Rattle.bk_lay.specs.TilingWord.{MovesFollow}
use Rattle.bk_lay.specs.declared.outline.Outline.{Outline}

-- the tiling is laid as far as the outline: the moves so far, and what they laid
pub record IsLaidTo (t : Tiling) (w : Word) (o : Outline) : Type 0 where
  pub laid : List Square
  pub fills : FillsFromTop t laid
  pub outline : IsOutline t.width laid o
  pub follows : (rest : Word) → MovesFollow t laid rest → MovesFollow t [] (w ++ rest)
  pub room : length o.left.items + length o.right.items ≤ order_of w

-- some moves of the tiling have led to the outline
abbrev pub IsLaidSoFar : Tiling → Outline → Type 0
IsLaidSoFar t o = (w : Word) × IsLaidTo t w o

-- the move after these moves, and the outline then
pub record IsLaidMove (t : Tiling) (w : Word) (o : Outline) (m : Move) : Type 0 where
  pub stands : CanStand m
  pub fits : order_of w + m.count ≤ length t.squares
  pub to : IsLaidTo t (w ++ m ∷ []) o
