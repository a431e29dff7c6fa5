-- What the layout of a simple tiling has, beside fitting: nothing in it is a part. The law at the end is a statement
-- alone; it is proved apart.
-- Examples (SimpleLayoutExamples): the rectangle 33x32 has such a layout. In 3x2 of the squares 2, 1, 1 the two squares
-- of side 1 are a part: the line between and the right wall both touch the top and the bottom, and the node between the
-- two has one square above and one below.
use Rattle.std.specs.Prelude.{length, ℕ, ◌<◌, ◌≡◌, ◌≢◌, ◌≤◌, ◌⊎◌}
use Rattle.bk_simple.specs.Simple.{IsSimple}
use Rattle.bk_tiling.specs.Tiling.{IsTiling, Tiling, order}
use Rattle.bk_layout.specs.Layout.{HasNoTwins, Layout}
use Rattle.bk_layout.specs.TilingLayout.{layout_of}

-- the line touches the node: some square beside the line hangs from the node or ends on it
pub record Touches (l : Layout) (line node : ℕ) : Type 0 where
  pub square : ℕ
  pub within : square < l.squares
  pub beside : (l.left square ≡ line) ⊎ (l.right square ≡ line)
  pub at : (l.above square ≡ node) ⊎ (l.below square ≡ node)

-- one square lies between two lines and two nodes
pub record HasOneBetween (l : Layout) (f g u v : ℕ) : Type 0 where
  pub square : ℕ
  pub within : square < l.squares
  pub left : (l.left square ≡ f) ⊎ (l.left square ≡ g)
  pub right : (l.right square ≡ f) ⊎ (l.right square ≡ g)
  pub above : (l.above square ≡ u) ⊎ (l.above square ≡ v)
  pub under : (l.below square ≡ u) ⊎ (l.below square ≡ v)

-- the lines are the two walls, and the nodes the top and the bottom
pub record AreOutermost (l : Layout) (f g u v : ℕ) : Type 0 where
  pub lines : ((f ≡ 0) × (g ≡ 1)) ⊎ ((f ≡ 1) × (g ≡ 0))
  pub nodes : ((u ≡ 0) × (v ≡ l.bottom)) ⊎ ((u ≡ l.bottom) × (v ≡ 0))

-- two lines that both touch two nodes have one square between, or all
abbrev pub HasNoParts : Layout → Type 0
HasNoParts l = (f g u v : ℕ) → f ≢ g → u ≢ v → Touches l f u → Touches l f v → Touches l g u → Touches l g v
    → HasOneBetween l f g u v ⊎ AreOutermost l f g u v

-- no node has one square above and one below
abbrev pub HasNoPairs : Layout → Type 0
HasNoPairs l = (v : ℕ) → length (l.ending v) ≡ 1 → length (l.hanging v) ≡ 1 → ⊥

pub record IsSimpleLayout (l : Layout) : Type 0 where
  pub parts : HasNoParts l
  pub twins : HasNoTwins l
  pub pairs : HasNoPairs l

abbrev pub ASimpleTilingHasASimpleLayout : Type 0
ASimpleTilingHasASimpleLayout = (t : Tiling) → IsTiling t → IsSimple t → 3 ≤ order t → IsSimpleLayout (layout_of t)
