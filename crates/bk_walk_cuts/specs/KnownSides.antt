-- What a ledger answers, where the sides meet all that is asked of them.
use Rattle.std.specs.Prelude.{Bool, List, Some, false, length, slice_index_or, take, ℕ, ◌<◌, ◌≡◌, ◌≢◌, ◌≤◌}
use Rattle.bk_word.specs.declared.Sign.TheVariants.{Even}
use Rattle.bk_forms.specs.Form.{Form, with_column}
use Rattle.bk_forms.specs.FormLaws.{MeetsEquations}
use Rattle.bk_forms.specs.Reduction.{comparison}
use Rattle.bk_forms.specs.declared.form.TheConstants.{MOST_SIDES}
use Rattle.bk_walk_cuts.specs.SideForms.{zero_form}

-- the sides still meet all equations, and there is no contradiction
pub record Answers (kept : List Form) (sides : List ℕ) (contradiction : Bool) : Type 0 where
  pub meets : MeetsEquations MOST_SIDES kept sides
  pub none : contradiction ≡ false

-- the equations before are the first ones still
pub record KeepsFirst (kept kept_then : List Form) : Type 0 where
  pub more : length kept ≤ length kept_then
  pub same : take (length kept) kept_then ≡ kept

-- no two of the first sides are equal
abbrev pub AreSidesApart : ℕ → List ℕ → Type 0
AreSidesApart count sides = (i j : ℕ) → j < i → i < count → slice_index_or sides i 0 ≢ slice_index_or sides j 0

-- the ledger knows two sides to be equal
abbrev pub AreKnownEqual : List Form → ℕ → ℕ → Type 0
AreKnownEqual kept i j = comparison kept (with_column zero_form i) (with_column zero_form j) ≡ Some Even
