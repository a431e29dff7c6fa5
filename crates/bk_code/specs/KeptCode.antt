-- Which codes a `Code` can be: those of at most 200 sides, none too large, with no group empty.
-- Example (CodeExamples): [2,1][1] is one; with an empty group between the two it is none.
use Rattle.std.specs.List.{AllByRecursion}
use Rattle.std.specs.Prelude.{List, length, ℕ, ◌<◌, ◌≤◌}
use Rattle.bk_tiling.specs.KeptTiling.{IsSide}
use Rattle.bk_code.specs.Code.{Code, flat}
use Rattle.bk_tiling.specs.declared.TheConstants.{MOST_SQUARES}

-- a group: it has a side, and each is one that a square may have
abbrev pub IsSideGroup : List ℕ → Type 0
IsSideGroup group = (0 < length group) × AllByRecursion IsSide group

-- what holds of each `Code`
pub record IsKeptCode (code : Code) : Type 0 where
  pub groups : AllByRecursion IsSideGroup code
  pub few : length (flat code) ≤ MOST_SQUARES
