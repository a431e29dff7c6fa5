-- Lines that share a node, on words: two lines at one open segment share no closed node but the one from which the
-- square between them hangs. Else the two lines and that node bound, with the segment's node, a part of the tiling.
-- Statements alone; each is proved apart.
-- Examples (SegmentExamples): along the nodes of the rectangle 3x2 of the squares 2, 1, 1 no line stands twice. After
-- 3aa.2ue.1ea square 5, at the place 4, hangs from the closed node 1 and ends on node 2, and isn't at the top.
use Rattle.std.specs.Prelude.{List, Some, length, slice_get, suc, ℕ, ◌++◌, ◌-◌, ◌<◌, ◌≡◌, ◌≢◌, ◌≤◌, ◌⊎◌}
use Rattle.bk_tiling.specs.Tiling.{IsTiling, Tiling}
use Rattle.bk_word.specs.Outline.{Outline}
use Rattle.bk_word.specs.Play.{outline_of}
use Rattle.bk_word.specs.Word.{Word}
use Rattle.bk_layout.specs.Layout.{Fits, Layout}
use Rattle.bk_layout.specs.LayoutLaws.{IsWordOfLayout}
use Rattle.bk_layout.specs.SimpleLayout.{IsSimpleLayout}
use Rattle.bk_layout.specs.TilingLayout.{layout_of}

-- along a node no line stands twice at the squares that end there
pub record AreLinesApart (l : Layout) : Type 0 where
  pub lefts : (v a b p q : ℕ) → slice_get (l.ending v) a ≡ Some p → slice_get (l.ending v) b ≡ Some q
      → l.left p ≡ l.left q → a ≡ b
  pub rights : (v a b p q : ℕ) → slice_get (l.ending v) a ≡ Some p → slice_get (l.ending v) b ≡ Some q
      → l.right p ≡ l.right q → a ≡ b
  pub order : (v a b p q : ℕ) → slice_get (l.ending v) a ≡ Some p → slice_get (l.ending v) b ≡ Some q → a ≤ b
      → l.left p ≢ l.right q

abbrev pub LinesOfATilingAreApart : Type 0
LinesOfATilingAreApart = (t : Tiling) → IsTiling t → AreLinesApart (layout_of t)

-- the square at this place in the order of hanging hangs from the closed node, or ends on it
pub record IsAtClosed (o : Outline) (place v : ℕ) : Type 0 where
  pub within : place < length o.hung
  pub closed : v < length o.closed
  pub at : (slice_get o.hung place ≡ Some v)
      ⊎ ((k : ℕ) × (numbers : List ℕ) × (slice_get o.closed v ≡ Some numbers)
      × (slice_get numbers k ≡ Some (suc place)))

-- the line at the left of the square a and that at the right of b, not before a on the same open segment, share a
-- closed node: then a is b, and hangs from it; or they are the two walls
abbrev pub LinesShareTheNodeAbove : Type 0
LinesShareTheNodeAbove = (l : Layout) (w front rest : Word) → Fits l → IsSimpleLayout l → AreLinesApart l
    → (word : IsWordOfLayout l w) → w ≡ front ++ rest
    → (x i j a b v c d : ℕ) (s : List ℕ) → slice_get (outline_of front).segments x ≡ Some s → slice_get s i ≡ Some a
    → slice_get s j ≡ Some b → i ≤ j
    → IsAtClosed (outline_of front) c v
    → (l.left (word.square c) ≡ l.left (word.square (a - 1)))
    ⊎ (l.right (word.square c) ≡ l.left (word.square (a - 1)))
    → IsAtClosed (outline_of front) d v
    → (l.left (word.square d) ≡ l.right (word.square (b - 1)))
    ⊎ (l.right (word.square d) ≡ l.right (word.square (b - 1)))
    → ((i ≡ j) × (slice_get (outline_of front).hung (a - 1) ≡ Some v))
    ⊎ ((l.left (word.square (a - 1)) ≡ 0) × (l.right (word.square (b - 1)) ≡ 1))
    ⊎ ((l.left (word.square (a - 1)) ≡ 1) × (l.right (word.square (b - 1)) ≡ 0))
