use Rattle.std.specs.Option.{is_some}
use Rattle.std.proofs.Common.{ap, not, subst, sym, ◌∙◌}
use Rattle.bk_laws.proofs.Truth.{absurd-of_true_and_false}
use Rattle.bk_word.specs.declared.Class.{Class}
use Rattle.bk_catalogue.specs.Catalogue.{IsOfClass}
use Rattle.bk_catalogue.proofs.qualifying.is_simple_of.Goals as goal

pub returns-in-Perfect-clause-simple : goal.returns-in-Perfect-clause-simple
returns-in-Perfect-clause-simple c e = (c.is_perfect_simple.ensures.0 e).1

pub returns-in-Perfect-clause-class : goal.returns-in-Perfect-clause-class
returns-in-Perfect-clause-class c e =
    subst (λ (kind : Class). IsOfClass kind c.args.tiling.now) (sym c.in-Perfect.is) (c.is_perfect_simple.ensures.0 e).0

pub returns-in-Perfect-clause-no : goal.returns-in-Perfect-clause-no
returns-in-Perfect-clause-no c e simple kind = absurd-of_true_and_false c.is_perfect_simple.result
    (c.is_perfect_simple.ensures.1 (subst (λ (kind : Class). IsOfClass kind c.args.tiling.now) c.in-Perfect.is kind, simple)) e

pub returns-then-not-is_perfect-clause-simple : goal.returns-then-not-is_perfect-clause-simple
returns-then-not-is_perfect-clause-simple c e = c.part.ensures.simple.0 (c.is_none.ensures ∙ ap not e)

pub returns-then-not-is_perfect-clause-class : goal.returns-then-not-is_perfect-clause-class
returns-then-not-is_perfect-clause-class c e = subst (λ (kind : Class). IsOfClass kind c.args.tiling.now) (sym c.in-Imperfect.is)
    (λ perfect. absurd-of_true_and_false c.is_perfect.result (c.is_perfect.ensures.1 perfect) c.if-not-is_perfect.true)

pub returns-then-not-is_perfect-clause-no : goal.returns-then-not-is_perfect-clause-no
returns-then-not-is_perfect-clause-no c e simple kind = absurd-of_true_and_false (is_some c.part.result) (c.is_none.ensures ∙ ap not e)
    (c.part.ensures.simple.1 simple)

pub returns-else-not-is_perfect-clause-no : goal.returns-else-not-is_perfect-clause-no
returns-else-not-is_perfect-clause-no c e simple kind =
    subst (λ (kind : Class). IsOfClass kind c.args.tiling.now) c.in-Imperfect.is kind (c.is_perfect.ensures.0 c.if-not-is_perfect.false)

pub returns-in-Simple-clause-simple : goal.returns-in-Simple-clause-simple
returns-in-Simple-clause-simple c e = c.part-in-Simple.ensures.simple.0 (c.is_none-in-Simple.ensures ∙ ap not e)

pub returns-in-Simple-clause-class : goal.returns-in-Simple-clause-class
returns-in-Simple-clause-class c e = subst (λ (kind : Class). IsOfClass kind c.args.tiling.now) (sym c.in-Simple.is) tt

pub returns-in-Simple-clause-no : goal.returns-in-Simple-clause-no
returns-in-Simple-clause-no c e simple kind = absurd-of_true_and_false (is_some c.part-in-Simple.result) (c.is_none-in-Simple.ensures ∙ ap not e)
    (c.part-in-Simple.ensures.simple.1 simple)
