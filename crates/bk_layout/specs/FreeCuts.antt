-- What a search through free words may pass over: the words that begin with certain moves, because no sound layout has
-- such a word. It is said of sound layouts and not of tilings, since the words that a search meets also belong to
-- layouts in which squares of the tiling are reversed. Each cut is one law that ends in `IsFreeBarren`.
-- Statements alone; each is proved apart.
-- Example (NodeCutExamples): no word of a sound layout begins with 3aa.2ue.1ea.
use Rattle.std.specs.Prelude.{Contains, [], length, ℕ, ◌++◌, ◌+◌, ◌<◌, ◌∷◌, ◌≡◌, ◌≢◌, ◌≤◌}
use Rattle.bk_simple.specs.Simple.{IsSimple}
use Rattle.bk_tiling.specs.Tiling.{IsTiling, Tiling, order}
use Rattle.bk_word.specs.Outline.{sizes_of, valley_of}
use Rattle.bk_word.specs.Play.{outline_of}
use Rattle.bk_word.specs.Word.{Move, Word, order_of}
use Rattle.bk_word.specs.declared.Sign.TheVariants.{Even}
use Rattle.bk_layout.specs.FreeWord.{IsFreeMove}
use Rattle.bk_layout.specs.Layout.{Fits, Layout}
use Rattle.bk_layout.specs.LayoutLaws.{IsWordOfLayout}
use Rattle.bk_layout.specs.SimpleLayout.{IsSimpleLayout}
use Rattle.bk_layout.specs.TilingLayout.{layout_of}
use Rattle.bk_word.specs.OwnSigns.{own_signs}
use Rattle.bk_catalogue.specs.SingleValleys.{single_valleys}
use Rattle.bk_catalogue.specs.VerticalCut.{line_bound_of}
use Rattle.bk_layout.specs.SharedNodes.{AreLinesApart}

-- no square stands at the right of the right wall, at the left of the left wall, or at one line with both its edges
pub record AreOuterWalls (l : Layout) : Type 0 where
  pub not_beyond : (q : ℕ) → q < l.squares → l.left q ≢ 1
  pub not_before : (q : ℕ) → q < l.squares → l.right q ≢ 0
  pub apart : (q : ℕ) → q < l.squares → l.left q ≢ l.right q

-- a layout of so many squares that fits, in which nothing is a part, and no line stands twice along a node
pub record IsSound (n : ℕ) (l : Layout) : Type 0 where
  pub squares : l.squares ≡ n
  pub fits : Fits l
  pub simple : IsSimpleLayout l
  pub walls : AreOuterWalls l
  pub lines : AreLinesApart l

-- a simple tiling of at least 3 squares has a sound layout, and that has a free word
abbrev pub ASimpleTilingHasASoundLayout : Type 0
ASimpleTilingHasASoundLayout = (t : Tiling) → IsTiling t → IsSimple t → 3 ≤ order t
    → IsSound (order t) (layout_of t) × ((w : Word) × IsWordOfLayout (layout_of t) w)

-- free barren: no word of a sound layout of so many squares begins with these moves
abbrev pub IsFreeBarren : ℕ → Word → Type 0
IsFreeBarren n front = (l : Layout) (w rest : Word) → IsSound n l → IsWordOfLayout l w → w ≡ front ++ rest → ⊥

-- a move whose first sign is above, where the valley has a left neighbour
abbrev pub StayingAboveIsFreeBarren : Type 0
StayingAboveIsFreeBarren = (n : ℕ) (front : Word) (m : Move) → (IsFreeMove (outline_of front) m → ⊥)
    → IsFreeBarren n (front ++ m ∷ [])

-- moves that leave one segment, while they hang fewer squares than the order
abbrev pub OneSegmentIsFreeBarren : Type 0
OneSegmentIsFreeBarren = (n : ℕ) (front : Word) → 0 < length front → order_of front < n
    → length (outline_of front).segments ≡ 1 → IsFreeBarren n front

-- a move with the sign even between two of its own squares
abbrev pub EvenSquaresAreFreeBarren : Type 0
EvenSquaresAreFreeBarren = (n : ℕ) (front : Word) (m : Move) → Contains (own_signs (outline_of front) m) Even
    → IsFreeBarren n (front ++ m ∷ [])

-- a move of one square that closes a segment of just one square
abbrev pub OneUnderOneIsFreeBarren : Type 0
OneUnderOneIsFreeBarren = (n : ℕ) (front : Word) (m : Move) → m.count ≡ 1 → length (valley_of (outline_of front)) ≡ 1
    → IsFreeBarren n (front ++ m ∷ [])

-- moves after which fewer squares are left than segments that must be closed, with those on which lines from the top
-- end, and valleys of one square
abbrev pub TooManyLinesIsFreeBarren : Type 0
TooManyLinesIsFreeBarren = (n : ℕ) (front : Word) → 3 ≤ n
    → n < order_of front + line_bound_of front + single_valleys (outline_of front).signs (sizes_of (outline_of front))
    → IsFreeBarren n front
