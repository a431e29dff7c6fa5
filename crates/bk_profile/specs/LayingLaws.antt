-- Laying gives a tiling back, and ends in one way. Statements alone; they are proved apart.
-- Example (GapExamples): the five groups of the rectangle 33x32 fit, and its squares are laid as they stand in it.
use Rattle.std.specs.Prelude.{List, [], length, ℕ, ◌<◌, ◌≡◌}
use Rattle.bk_tiling.specs.Tiling.{IsTiling, Tiling}
use Rattle.bk_code.specs.Code.{Code, code_of}
use Rattle.bk_profile.specs.Gap.{LaysTo}
use Rattle.bk_profile.specs.Refused.{HasCode, HasFlat, IsFlatRefused, IsRefused, first_sum}
use Rattle.bk_profile.specs.declared.laying.Refusal.{Refusal}

-- the groups of a tiling's code fit, one after another, and the squares are then laid as they stand in it
abbrev pub ACodeIsLaid : Type 0
ACodeIsLaid = (t : Tiling) → IsTiling t → LaysTo t.width [] (code_of t) t.squares

-- a code has one refusal at most
abbrev pub ACodeIsRefusedInOneWay : Type 0
ACodeIsRefusedInOneWay =
    (width : ℕ) (code : Code) (r s : Refusal) → IsRefused width code r → IsRefused width code s → r ≡ s

-- a flat list has one refusal at most
abbrev pub AFlatListIsRefusedInOneWay : Type 0
AFlatListIsRefusedInOneWay =
    (width : ℕ) (sides : List ℕ) (r s : Refusal) → IsFlatRefused width sides r → IsFlatRefused width sides s → r ≡ s

-- a group that does not fit, or an open end, excludes each tiling: none has a code that is refused under the sum of its
-- first group
abbrev pub ARefusedCodeHasNoTiling : Type 0
ARefusedCodeHasNoTiling =
    (code : Code) (r : Refusal) → 0 < length code → IsRefused (first_sum code) code r → (t : Tiling)
    → ¬ (HasCode code t)

-- no tiling has a width and a flat list that are refused
abbrev pub ARefusedFlatListHasNoTiling : Type 0
ARefusedFlatListHasNoTiling =
    (width : ℕ) (sides : List ℕ) (r : Refusal) → IsFlatRefused width sides r → (t : Tiling) → ¬ (HasFlat width sides t)
