-- The counts that a board tells, as those of a tiling.
-- Example (CountExamples): 2u.1e has 3 squares and 2 moves, 2 squares at the top, at the bottom and at the right wall,
-- and 1 at the left.
use Rattle.bk_layout.specs.Normal.{Counts as SidesCounted}
use Rattle.bk_free_search.specs.declared.counts.Counts.{Counts}

abbrev pub seen_counts : Counts → SidesCounted
seen_counts c = record {
  squares = c.squares;
  moves = c.moves;
  top = c.top;
  bottom = c.bottom;
  left = c.left;
  right = c.right;
}
