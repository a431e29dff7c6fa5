-- The tiling of a word by its sides.
-- Example (RealisedExamples of bk_skel): the rectangle 65x47 by the word 3ua.2aue.2ue.2ea.1ee and its ten sides.
use Rattle.std.specs.Prelude.{List, [], map, ℕ, ◌≡◌}
use Rattle.bk_tiling.specs.Tiling.{IsTiling, Tiling}
use Rattle.bk_tiling.specs.declared.Square.{Square}
use Rattle.bk_word.specs.Word.{Word}
use Rattle.bk_lay.specs.TilingWord.{IsWordOf}
use Rattle.bk_word_net.specs.WordFlow.{LaidAlong, laid_so_far}

-- a tiling of the word whose squares have these sides, in the order in which the word lays them
pub record IsLaidWith (w : Word) (given : List ℕ) (t : Tiling) : Type 0 where
  pub tiling : IsTiling t
  pub word : IsWordOf t w
  pub laid : List Square
  pub levels : List ℕ
  pub along : LaidAlong t (laid_so_far [] []) w (laid_so_far laid levels)
  pub sides : map (λ q. q.s) laid ≡ given
