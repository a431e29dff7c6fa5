-- What the cut by lines that share a node needs of a word of a layout: the squares of one open segment end on one node,
-- side by side. A statement alone; it is proved apart.
-- Example (SegmentExamples): in the rectangle 3x2 of the squares 2, 1, 1 with the word 2u.1e the squares 1 and 3 end
-- together on the bottom, and the squares 1 and 2 don't end together.
use Rattle.std.specs.Prelude.{List, Some, slice_get, ℕ, ◌++◌, ◌+◌, ◌-◌, ◌≡◌}
use Rattle.bk_word.specs.Play.{outline_of}
use Rattle.bk_word.specs.Word.{Word}
use Rattle.bk_layout.specs.Layout.{Layout}
use Rattle.bk_layout.specs.LayoutLaws.{IsWordOfLayout}

-- the squares of these numbers stand side by side among those that end on one node
pub record EndsTogether (l : Layout) (square : ℕ → ℕ) (numbers : List ℕ) : Type 0 where
  pub node : ℕ
  pub from : ℕ
  pub stands : (k number : ℕ) → slice_get numbers k ≡ Some number
      → slice_get (l.ending node) (from + k) ≡ Some (square number)

-- the squares of each segment that is open after the first moves of a word of a layout stand side by side among those
-- that end on one node
abbrev pub OpenSegmentsEndTogether : Type 0
OpenSegmentsEndTogether = (l : Layout) (w front rest : Word) (word : IsWordOfLayout l w) → w ≡ front ++ rest
    → (i : ℕ) (s : List ℕ) → slice_get (outline_of front).segments i ≡ Some s
    → EndsTogether l (λ number. word.square (number - 1)) s
