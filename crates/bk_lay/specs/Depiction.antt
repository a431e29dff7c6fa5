-- What is laid of a tiling, and the outline that depicts it.
-- Example (DepictionExamples): the squares 2 and 1 at the top of the rectangle 3x2 are depicted by the segments 1; 2
-- with the sign u.
use Rattle.std.specs.List.{AllByRecursion, AllZip}
use Rattle.std.specs.Prelude.{List, Some, [], map, slice_get, suc, true, ℕ, ◌+◌, ◌∷◌, ◌≡◌, ◌≤◌, ◌⊎◌}
use Rattle.bk_tiling.specs.Column.{AreRuns, IsFilled}
use Rattle.bk_tiling.specs.declared.Segment.{Segment}
use Rattle.bk_tiling.specs.Tiling.{IsOneOf, Tiling}
use Rattle.bk_tiling.specs.declared.Square.{Square}
use Rattle.bk_word.specs.Outline.{Outline}
use Rattle.bk_word.specs.Play.{parts}
use Rattle.bk_lay.specs.TilingWord.{signs_between}

-- the laid squares fill the tiling from the top: they are squares of it, and lie over every cell above the
-- depth of its column, each cell under one of them
pub record FillsFromTop (t : Tiling) (laid : List Square) : Type 0 where
  pub squares : AllByRecursion (λ q. IsOneOf q t.squares) laid
  pub filled : IsFilled t.width laid

-- the n-th laid square, from 1
abbrev pub IsNumbered : List Square → ℕ → Square → Type 0
IsNumbered laid n q = (k : ℕ) × (n ≡ suc k) × (slice_get laid k ≡ Some q)

-- the squares with these numbers stand side by side from column x to column end, their bottoms at the level
abbrev pub Span : List Square → ℕ → ℕ → List ℕ → ℕ → Type 0
Span laid level x [] end = x ≡ end
Span laid level x (n ∷ numbers) end =
    (q : Square) × IsNumbered laid n q × (q.x ≡ x) × (q.y + q.s ≡ level) × Span laid level (x + q.s) numbers end

-- the open segment of these squares is the run of columns: the squares end there side by side, or it is the top
abbrev pub IsSegment : List Square → Segment → List ℕ → Type 0
IsSegment laid v numbers = Span laid v.level v.x numbers (v.x + v.width) ⊎ ((v.level ≡ 0) × (numbers ≡ []))

-- the square hangs from the node that was closed at this valley
abbrev pub Hangs : List Segment → Square → ℕ → Type 0
Hangs nodes q node =
    (v : Segment) × (slice_get nodes node ≡ Some v) × (q.y ≡ v.level) × (v.x ≤ q.x) × (q.x + q.s ≤ v.x + v.width)

-- the outline is that of what is laid, where the nodes are the valleys that were filled, in order: its open
-- segments are the level runs of the columns, its signs compare them, its closed segments are the nodes, and its
-- squares are the laid ones in order
pub record Depicts (t : Tiling) (laid : List Square) (nodes : List Segment) (o : Outline) : Type 0 where
  pub runs : List Segment
  pub cut : AreRuns t.width laid 0 runs
  pub segments : AllZip (IsSegment laid) runs o.segments
  pub signs : o.signs ≡ signs_between (map (λ v. v.level) runs)
  pub parted : AllByRecursion (λ sign. parts sign ≡ true) o.signs
  pub closed : AllZip (IsSegment laid) nodes o.closed
  pub hung : AllZip (Hangs nodes) laid o.hung
