-- What the net of a word makes of it: its one primitive tiling, or that no tiling has the word.
-- Example (WordAnswerExamples of bk_answer): 2u.1e has the rectangle 3x2 of the squares 2, 1, 1.
use Rattle.std.specs.Prelude.{None, Option, Some, ◌≡◌}
use Rattle.bk_tiling.specs.Scale.{IsPrimitiveTiling}
use Rattle.bk_tiling.specs.Tiling.{IsTiling, Tiling}
use Rattle.bk_word.specs.Word.{Word}
use Rattle.bk_lay.specs.TilingWord.{IsWordOf}

-- t is the primitive tiling of the word, and there is no other
pub record IsTilingOf (w : Word) (t : Tiling) : Type 0 where
  pub tiling : IsTiling t
  pub primitive : IsPrimitiveTiling t
  pub word : IsWordOf t w
  pub only : (u : Tiling) → IsTiling u → IsPrimitiveTiling u → IsWordOf u w → u ≡ t

-- the primitive tiling of the word, or that no tiling has the word
abbrev pub IsRealised : Word → Option Tiling → Type 0
IsRealised w (Some t) = IsTilingOf w t
IsRealised w None = (t : Tiling) → IsTiling t → ¬ (IsWordOf t w)
