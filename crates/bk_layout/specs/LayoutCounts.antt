-- The counts of a layout, and that the layout of a tiling has those of the tiling. Statements alone; they are proved
-- apart.
-- Example (CountExamples): the layout of the rectangle 3x2 of squares 2, 1, 1 has 3 squares, 2 moves, 2 squares at the
-- top, the bottom and the right, and 1 at the left.
use Rattle.std.specs.Prelude.{count_by, length, ◌==◌, ◌≡◌}
use Rattle.bk_tiling.specs.Tiling.{IsTiling, Tiling}
use Rattle.bk_word.specs.Play.{numbers_from}
use Rattle.bk_layout.specs.Layout.{Layout}
use Rattle.bk_layout.specs.TilingLayout.{layout_of}
use Rattle.bk_layout.specs.Normal.{Counts, counts_of}

-- the counts of a layout: what hangs from the top and what ends on the bottom, and the squares with the left wall, the
-- line 0, at their left and with the right wall, the line 1, at their right
abbrev pub counts_of_layout : Layout → Counts
counts_of_layout l = record {
  squares = l.squares;
  moves = l.bottom;
  top = length (l.hanging 0);
  bottom = length (l.ending l.bottom);
  left = count_by (λ q. l.left q == 0) (numbers_from 0 l.squares);
  right = count_by (λ q. l.right q == 1) (numbers_from 0 l.squares);
}

-- the layout of a tiling has the tiling's counts
abbrev pub TheLayoutHasTheCounts : Type 0
TheLayoutHasTheCounts = (t : Tiling) → IsTiling t → counts_of_layout (layout_of t) ≡ counts_of t
