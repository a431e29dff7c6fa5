-- Normal layouts: those with the counts of a normal tiling, of which each tiling has an image. The counts stay where
-- squares are reversed, so that a layout with a word by rule R is normal where the tiling's is. Statements alone; each
-- is proved apart.
-- Example (NormalExamples): the layout of the rectangle 3x2 of the squares 2, 1, 1, with two squares at the top and two
-- at the bottom, one at the left and two at the right, and two moves, is normal.
use Rattle.std.specs.Prelude.{ℕ, ◌<◌, ◌↔◌, ◌≡◌}
use Rattle.bk_tiling.specs.Tiling.{IsTiling, Tiling}
use Rattle.bk_layout.specs.Layout.{Fits, Layout}
use Rattle.bk_layout.specs.TilingLayout.{layout_of}
use Rattle.bk_layout.specs.Normal.{AreNormal, IsNormal}
use Rattle.bk_layout.specs.LayoutCounts.{counts_of_layout}
use Rattle.bk_layout.specs.Reversal.{IsUpToReversals}
use Rattle.bk_layout.specs.FreeCuts.{AreOuterWalls}

abbrev pub IsNormalLayout : Layout → Type 0
IsNormalLayout l = AreNormal (counts_of_layout l)

-- the layout of a normal tiling is normal
abbrev pub ANormalTilingHasANormalLayout : Type 0
ANormalTilingHasANormalLayout = (t : Tiling) → IsTiling t → IsNormal t → IsNormalLayout (layout_of t)

-- the counts of m are those of l, and the squares at each wall are the same
pub record HasCountsOf (l m : Layout) : Type 0 where
  pub counts : counts_of_layout m ≡ counts_of_layout l
  pub at_left : (q : ℕ) → q < l.squares → (m.left q ≡ 0) ↔ (l.left q ≡ 0)
  pub at_right : (q : ℕ) → q < l.squares → (m.right q ≡ 1) ↔ (l.right q ≡ 1)

abbrev pub ReversalsKeepCounts : Type 0
ReversalsKeepCounts = (l m : Layout) → Fits l → AreOuterWalls l → Fits m → AreOuterWalls m → IsUpToReversals l m
    → HasCountsOf l m
