-- What a code tells of its tiling, and how codes are ordered. Statements alone; they are proved apart.
-- Example (CodeExamples): two squares of side 1 in a row and two in a column have one flat list, and other widths.
use Rattle.std.specs.Cmp.{IsTotalOrder}
use Rattle.std.specs.Prelude.{◌≡◌}
use Rattle.bk_tiling.specs.Tiling.{IsTiling, Tiling}
use Rattle.bk_code.specs.Code.{code_cmp, code_of, flat}

-- a width and a flat list fix a tiling
abbrev pub AFlatListFixesATiling : Type 0
AFlatListFixesATiling =
    (t u : Tiling) → IsTiling t → IsTiling u → t.width ≡ u.width → flat (code_of t) ≡ flat (code_of u) → t ≡ u

-- codes are totally ordered by their flat lists
abbrev pub CodesAreOrdered : Type 0
CodesAreOrdered = IsTotalOrder code_cmp
