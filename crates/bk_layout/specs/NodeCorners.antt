-- Reversing a square keeps a layout sound. For this the lines around a node are told apart in a form that knows no up
-- and down: the squares at a node stand in a ring, from left to right those that end on it, then from right to left
-- those that hang from it, and each has a line before it and a line after it. Statements alone; they are proved apart.
-- Example (CornersExamples): at node 1 of the rectangle 3x2 of squares 2, 1, 1 square 1 has line 2 before it and line 1
-- after it, and square 2 line 1 before it and line 2 after it.
use Rattle.std.specs.Prelude.{ℕ, ◌<◌, ◌≡◌, ◌≤◌, ◌⊎◌}
use Rattle.bk_simple.specs.Simple.{IsSimple}
use Rattle.bk_tiling.specs.Tiling.{IsTiling, Tiling, order}
use Rattle.bk_layout.specs.Layout.{AreNeighbours, Layout}
use Rattle.bk_layout.specs.TilingLayout.{layout_of}
use Rattle.bk_layout.specs.FreeCuts.{IsSound}
use Rattle.bk_layout.specs.Reversal.{CanReverse, reversed}
use Rattle.bk_layout.specs.RuleR.{HasWordByRuleR}

-- around the node, clockwise, the line stands before the square, or after it
abbrev pub IsBefore : Layout → (node square line : ℕ) → Type 0
IsBefore l v x f = ((l.below x ≡ v) × (l.left x ≡ f)) ⊎ ((l.above x ≡ v) × (l.right x ≡ f))

abbrev pub IsAfter : Layout → (node square line : ℕ) → Type 0
IsAfter l v x f = ((l.below x ≡ v) × (l.right x ≡ f)) ⊎ ((l.above x ≡ v) × (l.left x ≡ f))

-- around a node no line stands before two squares, and none after two
pub record AreCornersApart (l : Layout) : Type 0 where
  pub before : (v x y f : ℕ) → x < l.squares → y < l.squares → IsBefore l v x f → IsBefore l v y f → x ≡ y
  pub after : (v x y f : ℕ) → x < l.squares → y < l.squares → IsAfter l v x f → IsAfter l v y f → x ≡ y

-- squares that end side by side on one node share a line
abbrev pub DoEndsMeet : Layout → Type 0
DoEndsMeet l = (v x y : ℕ) → AreNeighbours (l.ending v) x y → l.right x ≡ l.left y

-- a sound layout of so many squares, where around a node no line stands before two squares or after two, and squares
-- that end side by side on one node share a line
pub record IsSoundAround (n : ℕ) (l : Layout) : Type 0 where
  pub sound : IsSound n l
  pub corners : AreCornersApart l
  pub ends_meet : DoEndsMeet l

abbrev pub AReversedLayoutIsSound : Type 0
AReversedLayoutIsSound = (n : ℕ) (l : Layout) (q p r : ℕ) → IsSoundAround n l → CanReverse l q p r
    → IsSoundAround n (reversed l q p r)

-- a layout that is l up to reversed squares, with a word by rule R, and it is sound
pub record HasSoundWordByRuleR (n : ℕ) (l : Layout) : Type 0 where
  pub by_rule : HasWordByRuleR l
  pub around : IsSoundAround n by_rule.layout

abbrev pub ASoundLayoutHasASoundWordByRuleR : Type 0
ASoundLayoutHasASoundWordByRuleR = (n : ℕ) (l : Layout) → IsSoundAround n l → HasSoundWordByRuleR n l

-- the layout of a simple tiling of at least 3 squares is sound, also around its nodes
abbrev pub ASimpleTilingIsSoundAround : Type 0
ASimpleTilingIsSoundAround = (t : Tiling) → IsTiling t → IsSimple t → 3 ≤ order t
    → IsSoundAround (order t) (layout_of t)
