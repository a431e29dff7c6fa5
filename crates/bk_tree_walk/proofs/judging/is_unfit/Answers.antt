-- A list is unfit by a number below 1, or in the class perfect by two that are the same.
use denote.Enum.Bare.{same_true, true_same}
use Rattle.std.proofs.Common.{Any, List, inl, inr, pos, refl, sym, true≢false, ℤ, ◌<ℤ◌, ◌∙◌, ◌≡◌}
use Rattle.bk_word.specs.contracts.Class.{the_type}
use Rattle.bk_word.specs.declared.Class.{Class}
use Rattle.bk_word.specs.declared.Class.TheVariants.{Perfect}
use Rattle.bk_catalogue.specs.Repeated.{HasTwoAlike}
use Rattle.bk_tree_walk.specs.WholeWords.{IsUnfit}
use Rattle.bk_tree_walk.proofs.judging.is_unfit.Goals as goal

-- what follows from either
by_either : {P : Type 0} (class : Class) (currents : List ℤ) → (Any (λ n. n <ℤ pos 1) currents → P) → ((class ≡ Perfect) × HasTwoAlike currents → P)
    → IsUnfit class currents → P
by_either class currents f g (inl below) = f below
by_either class currents f g (inr alike) = g alike

pub returns-then-has_below_one : goal.returns-then-has_below_one
returns-then-has_below_one c = (λ _. inl (c.has_below_one.ensures.0 c.if-has_below_one.true), λ _. refl)

pub returns-then-eq : goal.returns-then-eq
returns-then-eq c = (
  λ e. inr (same_true the_type tt _ _ (sym c.eq.ensures ∙ c.if-eq.true), c.has_two_alike.ensures.0 e),
  by_either c.args.class c.args.currents.now (λ below. absurd (true≢false (sym (c.has_below_one.ensures.1 below) ∙ c.if-has_below_one.false)))
      (λ alike. c.has_two_alike.ensures.1 alike.1),
)

pub returns-else-eq : goal.returns-else-eq
returns-else-eq c = (
  λ e. absurd (true≢false (sym e ∙ c.if-eq.false)),
  by_either c.args.class c.args.currents.now (λ below. absurd (true≢false (sym (c.has_below_one.ensures.1 below) ∙ c.if-has_below_one.false)))
      (λ alike. c.eq.ensures ∙ true_same the_type _ _ alike.0),
)
