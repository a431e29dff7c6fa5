-- Which later squares share a cell with one square.
-- Example (RefusalExamples): of the squares (0, 0, 2), (2, 0, 2), (1, 1, 2) that at place 2 is the first that shares a
-- cell with the one at place 0.
use Rattle.std.specs.Prelude.{List, length, ℕ, ◌+◌, ◌<◌, ◌^◌}
use Rattle.bk_tiling.specs.Refusal.{ShareCellAt}
use Rattle.bk_tiling.specs.declared.Square.{Square}

-- the square has a side, and its edges fit the types of the code
abbrev pub EdgesFit : Square → Type 0
EdgesFit q = (0 < q.s) × (q.x + q.s < 2 ^ 64) × (q.y + q.s < 2 ^ 64)

-- the square at place i shares no cell with a later one before place n
abbrev pub SharesWithNoneBefore : List Square → ℕ → ℕ → Type 0
SharesWithNoneBefore squares i n = (k : ℕ) → i < k → k < n → ¬ (ShareCellAt squares i k)

-- j is the first place after i of a square that shares a cell with the one at i
pub record IsFirstSharing (squares : List Square) (i j : ℕ) : Type 0 where
  pub after : i < j
  pub below : j < length squares
  pub here : ShareCellAt squares i j
  pub before : SharesWithNoneBefore squares i j
