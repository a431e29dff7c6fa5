-- How deep laid squares reach in the columns of a rectangle, and the level runs of these depths.
-- Example (ColumnExamples): under the squares of sides 18 and 15 at the top of the rectangle 33x32 the depth is 18 up
-- to column 17 and 15 from column 18 on; these are the two level runs. Cells over a square may be free; none is where
-- the squares fill their columns (`IsFilled`).
use Rattle.std.specs.Prelude.{Bool, List, [], cond, count_by, max, nat_le, nat_lt, ℕ, ◌&&◌, ◌+◌, ◌<◌, ◌∷◌, ◌≡◌, ◌≤◌}
use Rattle.bk_tiling.specs.Tiling.{covers}
use Rattle.bk_tiling.specs.declared.Segment.{Segment}
use Rattle.bk_tiling.specs.declared.Square.{Square}

-- the square covers some cell of the column
abbrev pub covers_column : ℕ → Square → Bool
covers_column c q = nat_le q.x c && nat_lt c (q.x + q.s)

-- the depth of a column: the greatest level of a bottom among the squares over it, or 0
abbrev pub depth : List Square → ℕ → ℕ
depth [] c = 0
depth (q ∷ squares) c = max (cond (covers_column c q) (q.y + q.s) 0) (depth squares c)

-- all columns of the segment lie in the rectangle's width and have its level as their depth
pub record IsLevel (width : ℕ) (laid : List Square) (v : Segment) : Type 0 where
  pub some : 0 < v.width
  pub within : v.x + v.width ≤ width
  pub level : (c : ℕ) → v.x ≤ c → c < v.x + v.width → depth laid c ≡ v.level

-- the columns from x to the end, cut into level runs
abbrev pub AreRuns : ℕ → List Square → ℕ → List Segment → Type 0
AreRuns width laid x [] = x ≡ width
AreRuns width laid x (v ∷ runs) = (v.x ≡ x) × IsLevel width laid v × AreRuns width laid (x + v.width) runs

-- the laid squares fill each column down to its depth: each cell above it lies in exactly one of them. (Below
-- the depth there is none, by what depth is.)
abbrev pub IsFilled : ℕ → List Square → Type 0
IsFilled width laid = (c j : ℕ) → c < width → j < depth laid c → count_by (covers c j) laid ≡ 1
