-- The squares whose left edges lie on a line that runs from the top between two squares of the first move, by the
-- numbers of their left lines.
-- Example (TopLineExamples): in 3aa.2ue.1ea the squares have the left lines 0, 2, 3, 0, 5, 5, and those of 2 and 3
-- begin at the top.
use Rattle.std.specs.Prelude.{Bool, List, length, map, nat_le, slice_index_or, ℕ, ◌&&◌, ◌+◌, ◌<◌, ◌≤◌}
use Rattle.bk_free_search.specs.NodeLines.{Has}
use Rattle.bk_free_search.specs.declared.line_set.LineSet.{LineSet}

-- the line of this number begins between two squares of a first move of so many
abbrev pub is_top_line : ℕ → ℕ → Bool
is_top_line first line = nat_le 2 line && nat_le line first

-- of each square whether its left edge lies on a line that begins between two squares of the first move, by the left
-- lines of all squares
abbrev pub on_top_lines : ℕ → List ℕ → List Bool
on_top_lines first lefts = map (is_top_line first) lefts

-- these numbers are those of squares, of so many, from 1 on
abbrev pub AreSquares : List ℕ → ℕ → Type 0
AreSquares numbers many = (j : ℕ) → j < length numbers
    → (1 ≤ slice_index_or numbers j 0) × (slice_index_or numbers j 0 ≤ many)

-- one of so many places from one on is among these, or the one behind them
pub record HasOneFrom (places : LineSet) (start many : ℕ) : Type 0 where
  pub more : ℕ
  pub few : more ≤ many
  pub has : Has places (start + more)
