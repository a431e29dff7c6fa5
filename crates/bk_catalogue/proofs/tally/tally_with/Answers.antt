use Rattle.std.proofs.Common.{[], refl, subst, sym, ◌++◌, ◌+◌, ◌∷◌, arith}
use Rattle.bk_word.specs.declared.Sign.{Sign}
use Rattle.bk_catalogue.proofs.HangingBounds.TallyLaws.{tally_above, tally_even, tally_under}
use Rattle.bk_catalogue.specs.Tally.{IsTally}
use Rattle.bk_catalogue.proofs.tally.tally_with.Goals as goal

pub returns-in-Above-clause-tally : goal.returns-in-Above-clause-tally
returns-in-Above-clause-tally c signs t = subst (λ (s : Sign). IsTally (signs ++ s ∷ []) c.max.result (c.args.tally.aboves + 1)) (sym c.in-Above.is)
    (tally_above signs c.args.tally.bound c.max.result c.args.tally.aboves (c.args.tally.aboves + 1) t c.max.ensures refl)

pub returns-in-Even-clause-tally : goal.returns-in-Even-clause-tally
returns-in-Even-clause-tally c signs t = subst (λ (s : Sign). IsTally (signs ++ s ∷ []) c.args.tally.bound c.args.tally.aboves) (sym c.in-Even.is)
    (tally_even signs c.args.tally.bound c.args.tally.aboves c.requires.low t)

pub returns-in-Under-clause-tally : goal.returns-in-Under-clause-tally
returns-in-Under-clause-tally c signs t = subst (λ (s : Sign). IsTally (signs ++ s ∷ []) (c.args.tally.bound + 1) c.args.tally.aboves) (sym c.in-Under.is)
    (tally_under signs c.args.tally.bound (c.args.tally.bound + 1) c.args.tally.aboves c.requires.low t refl)

pub overflow_add-tally : goal.overflow_add-tally
overflow_add-tally c = omega (arith, c.requires.few, c.requires.low)

pub overflow_add-result : goal.overflow_add-result
overflow_add-result c = omega (arith, c.requires.few, c.requires.low)

pub overflow_add-result-in-Under : goal.overflow_add-result-in-Under
overflow_add-result-in-Under c = omega (arith, c.requires.few)

pub returns-in-Above-clause-low : goal.returns-in-Above-clause-low
returns-in-Above-clause-low c = omega (arith, c.max.ensures)

pub returns-in-Above-clause-one : goal.returns-in-Above-clause-one
returns-in-Above-clause-one c = omega (arith, c.max.ensures, c.requires.low)

pub returns-in-Even-clause-low : goal.returns-in-Even-clause-low
returns-in-Even-clause-low c = c.requires.low

pub returns-in-Even-clause-one : goal.returns-in-Even-clause-one
returns-in-Even-clause-one c = omega arith

pub returns-in-Under-clause-low : goal.returns-in-Under-clause-low
returns-in-Under-clause-low c = omega (arith, c.requires.low)

pub returns-in-Under-clause-one : goal.returns-in-Under-clause-one
returns-in-Under-clause-one c = omega arith
