use Rattle.std.specs.List.{AllByRecursion}
use Rattle.std.proofs.Common.{List, ap, subst, sym, ℕ, ◌∙◌}
use Rattle.bk_tiling.specs.KeptTiling.{IsSide}
use Rattle.bk_code.specs.Code.{flat}
use Rattle.bk_code.proofs.Storing.{flat_good, groups_flat}
use Rattle.bk_code.proofs.flat.Goals as goal

pub returns-clause-value : goal.returns-clause-value
returns-clause-value c = c.as_slice.ensures.value ∙ sym (groups_flat _ _ c.code.invariant.starts_rise) ∙ ap flat c.code.view_is

pub returns-clause-sides : goal.returns-clause-sides
returns-clause-sides c =
    subst (λ (l : List ℕ). AllByRecursion IsSide l) (groups_flat _ _ c.code.invariant.starts_rise ∙ sym c.as_slice.ensures.value)
    (flat_good _ c.code.invariant.code.groups)
