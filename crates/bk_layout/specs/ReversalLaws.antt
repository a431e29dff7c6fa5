-- A layout with a square reversed fits, where that can be done. A statement alone; it is proved apart.
-- Example (ReversalExamples): a layout of five squares fits, and so does it with square 2 reversed.
use Rattle.std.specs.Prelude.{ℕ}
use Rattle.bk_layout.specs.Layout.{Fits, Layout}
use Rattle.bk_layout.specs.Reversal.{CanReverse, IsUpToReversals, reversed}

-- a reversed layout fits, and is the layout up to reversals
pub record IsReversed (l m : Layout) : Type 0 where
  pub fits : Fits m
  pub same : IsUpToReversals l m

abbrev pub AReversedLayoutFits : Type 0
AReversedLayoutFits = (l : Layout) → Fits l → (q p r : ℕ) → CanReverse l q p r → IsReversed l (reversed l q p r)
