-- The lower outline of laid squares about its leftmost valley, cut into level runs of columns.
-- Example (LevelRunExamples): under the first three squares of 65x47, of sides 25, 17, 23, the valley is the run under
-- 17.
use Rattle.std.specs.Prelude.{Bool, List, [], map, nat_eq, nat_le, nat_lt, suc, ℕ, ◌&&◌, ◌++◌, ◌+◌, ◌<◌, ◌∷◌, ◌≡◌, ◌≤◌}
use Rattle.bk_tiling.specs.Column.{depth}
use Rattle.bk_tiling.specs.declared.Square.{Square}
use Rattle.bk_lay.specs.declared.outline.Outline.{Outline}
use Rattle.bk_lay.specs.declared.outline.LevelRun.{LevelRun}

-- the run has a column, and its level is the depth of each of its columns
pub record IsRun (laid : List Square) (r : LevelRun) : Type 0 where
  pub some : r.x < r.end
  pub level : (c : ℕ) → r.x ≤ c → c < r.end → depth laid c ≡ r.level

-- a run whose column before it is deeper, where there is one
pub record IsFallingRun (laid : List Square) (r : LevelRun) : Type 0 where
  pub run : IsRun laid r
  pub wall : (c : ℕ) → suc c ≡ r.x → r.level < depth laid c

-- runs from left to right, over the columns from x to the end; the column before each is deeper
abbrev pub FallingRuns : List Square → ℕ → List LevelRun → ℕ → Type 0
FallingRuns laid x [] end = x ≡ end
FallingRuns laid x (r ∷ runs) end = (r.x ≡ x) × IsFallingRun laid r × FallingRuns laid r.end runs end

-- runs from right to left, over the columns from x to the end
abbrev pub RunsFromRight : List Square → ℕ → List LevelRun → ℕ → Type 0
RunsFromRight laid x [] end = x ≡ end
RunsFromRight laid x (r ∷ runs) end = (r.end ≡ end) × IsRun laid r × RunsFromRight laid x runs r.x

-- the runs at the left and at the right meet, and cover the width
pub record Meet (width : ℕ) (laid : List Square) (left right : List LevelRun) : Type 0 where
  pub column : ℕ
  pub falls : FallingRuns laid 0 left column
  pub rest : RunsFromRight laid column right width

-- the runs at the left, a run that falls too, and the runs at the right cover the width
pub record AreBeside (width : ℕ) (laid : List Square) (left : List LevelRun) (r : LevelRun)
    (right : List LevelRun) : Type 0 where
  pub falls : FallingRuns laid 0 left r.x
  pub run : IsFallingRun laid r
  pub rest : RunsFromRight laid r.end right width

-- the outline is that of the laid squares, about their leftmost valley: the column after it is deeper too
pub record IsOutline (width : ℕ) (laid : List Square) (o : Outline) : Type 0 where
  pub runs : AreBeside width laid o.left.items o.valley o.right.items
  pub rises : o.valley.end < width → o.valley.level < depth laid o.valley.end

-- the run under a square
abbrev pub run_under : Square → LevelRun
run_under q = record { x = q.x; end = q.x + q.s; level = q.y + q.s }

-- the runs under squares, from the last to the first
abbrev pub runs_under : List Square → List LevelRun
runs_under [] = []
runs_under (q ∷ squares) = runs_under squares ++ run_under q ∷ []

-- the corner of a square in column x at the level
abbrev pub corner : ℕ → ℕ → Square
corner x level = record { x = x; y = level; s = 0 }

-- the square's top lies on the run, and it begins in one of its columns
abbrev pub begins_under : LevelRun → Square → Bool
begins_under r q = nat_eq q.y r.level && (nat_le r.x q.x && nat_lt q.x r.end)

-- the level of the last of the runs, where there is one
abbrev pub last_level : List LevelRun → List ℕ
last_level [] = []
last_level (r ∷ []) = r.level ∷ []
last_level (r ∷ s ∷ runs) = last_level (s ∷ runs)

-- none of the runs is last, or the last one is deeper than the level
abbrev pub IsDeeperAtEnd : ℕ → List LevelRun → Type 0
IsDeeperAtEnd level runs = (front : List LevelRun) (r : LevelRun) → runs ≡ front ++ r ∷ [] → level < r.level

-- the bottoms of squares
abbrev pub bottoms_of : List Square → List ℕ
bottoms_of squares = map (λ q. q.y + q.s) squares
