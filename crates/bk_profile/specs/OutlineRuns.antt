-- How the outline of laid squares is kept: level runs of columns side by side, from column 0 on.
-- Example (GapExamples): the group 18, 15 at the top leaves two runs under it, and the second begins in column 18.
use Rattle.std.specs.List.{All}
use Rattle.std.specs.Prelude.{List, [], length, map, sum_by, take, ℕ, ⊤, ◌*◌, ◌+◌, ◌<◌, ◌∷◌, ◌≡◌, ◌≤◌}
use Rattle.bk_laws.specs.HasAt.{HasAt}
use Rattle.bk_tiling.specs.Column.{depth}
use Rattle.bk_tiling.specs.declared.Square.{Square}
use Rattle.bk_profile.specs.declared.runs.LowestRuns.{LowestRuns}
use Rattle.bk_profile.specs.declared.runs.OutlineRun.{OutlineRun}
use Rattle.bk_tiling.specs.declared.TheConstants.{LONGEST_SIDE}

-- how many columns the runs have
abbrev pub width_of : List OutlineRun → ℕ
width_of runs = sum_by (λ r. r.width) runs

-- the first column of the run at place k: the width of the runs before it
abbrev pub run_start : List OutlineRun → ℕ → ℕ
run_start runs k = width_of (take k runs)

-- the columns of each run have its level as their depth, where the first run begins at column x
abbrev pub AreLevel : List Square → ℕ → List OutlineRun → Type 0
AreLevel laid x [] = ⊤
AreLevel laid x (r ∷ runs) =
    ((c : ℕ) → x ≤ c → c < x + r.width → depth laid c ≡ r.level) × AreLevel laid (x + r.width) runs

-- the runs are the outline of the squares laid in this width
pub record AreOutlineRuns (width : ℕ) (laid : List Square) (runs : List OutlineRun) : Type 0 where
  pub some : All (λ r. 0 < r.width) runs
  pub whole : width_of runs ≡ width
  pub level : AreLevel laid 0 runs
  pub few : length runs ≤ length laid + 1
  pub low : All (λ r. r.level ≤ length laid * LONGEST_SIDE) runs

-- among the first n runs those from place a up to b are the leftmost ones of least level that touch, and `run` is the
-- one at place a
pub record IsLowest (runs : List OutlineRun) (n a b : ℕ) : Type 0 where
  pub some : a < b
  pub within : b ≤ n
  pub run : OutlineRun
  pub run_is : HasAt runs a run
  pub level : (k : ℕ) (r : OutlineRun) → HasAt runs k r → a ≤ k → k < b → r.level ≡ run.level
  pub least : (k : ℕ) (r : OutlineRun) → HasAt runs k r → k < n → run.level ≤ r.level
  pub left : (k : ℕ) (r : OutlineRun) → HasAt runs k r → k < a → run.level < r.level
  pub right : (r : OutlineRun) → HasAt runs b r → b < n → run.level < r.level

-- the leftmost runs of least level that touch, and the segment that they make
pub record AreLowestRuns (runs : List OutlineRun) (lowest : LowestRuns) : Type 0 where
  pub places : IsLowest runs (length runs) lowest.first lowest.end
  pub x : lowest.segment.x ≡ run_start runs lowest.first
  pub end : lowest.segment.x + lowest.segment.width ≡ run_start runs lowest.end
  pub level : lowest.segment.level ≡ places.run.level

-- the run that a square of this side leaves under it
abbrev pub run_under_side : ℕ → ℕ → OutlineRun
run_under_side level s = record { width = s; level = level + s }

-- the runs that a group leaves under it
abbrev pub runs_under_group : ℕ → List ℕ → List OutlineRun
runs_under_group level sides = map (run_under_side level) sides
