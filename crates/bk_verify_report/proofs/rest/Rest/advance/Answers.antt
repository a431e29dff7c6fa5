use Rattle.std.proofs.Common.{refl, sym, true≢false, ◌∙◌}
use Rattle.bk_verify_report.proofs.rest.Rest.advance.Goals as goal

pub returns-then-not-advance_in-clause-entry : goal.returns-then-not-advance_in-clause-entry
returns-then-not-advance_in-clause-entry g c = tt

pub returns-then-not-advance_in-clause-narrow : goal.returns-then-not-advance_in-clause-narrow
returns-then-not-advance_in-clause-narrow g c = tt

pub returns-then-not-advance_in-clause-none : goal.returns-then-not-advance_in-clause-none
returns-then-not-advance_in-clause-none g c = c.advance_in.ensures.none c.if-not-advance_in.true

pub returns-then-not-advance_in-clause-cursor : goal.returns-then-not-advance_in-clause-cursor
returns-then-not-advance_in-clause-cursor g c = c.advance_in.ensures.end c.if-not-advance_in.true

pub returns-then-not-advance_in-clause-ended : goal.returns-then-not-advance_in-clause-ended
returns-then-not-advance_in-clause-ended g c = (λ _. refl, λ _. c.advance_in.ensures.ended.1 c.if-not-advance_in.true)

pub returns-then-not-advance_in-clause-later : goal.returns-then-not-advance_in-clause-later
returns-then-not-advance_in-clause-later g c _ = refl

pub returns-then-not-advance_in-clause-pairs : goal.returns-then-not-advance_in-clause-pairs
returns-then-not-advance_in-clause-pairs g c = c.advance_in.ensures.pairs

pub returns-then-not-advance_in-clause-order : goal.returns-then-not-advance_in-clause-order
returns-then-not-advance_in-clause-order g c = c.advance_in.ensures.order

pub returns-then-not-advance_in-clause-class : goal.returns-then-not-advance_in-clause-class
returns-then-not-advance_in-clause-class g c = c.advance_in.ensures.class

pub returns-clause-entry : goal.returns-clause-entry
returns-clause-entry g c = (c.advance_in.ensures.entry c.if-not-advance_in.false, c.advance_in.ensures.code c.if-not-advance_in.false)

pub returns-clause-narrow : goal.returns-clause-narrow
returns-clause-narrow g c = refl

pub returns-clause-none : goal.returns-clause-none
returns-clause-none g c = tt

pub returns-clause-cursor : goal.returns-clause-cursor
returns-clause-cursor g c = c.advance_in.ensures.cursor c.if-not-advance_in.false

pub returns-clause-ended : goal.returns-clause-ended
returns-clause-ended g c =
    (λ e. absurd (true≢false (sym c.if-not-advance_in.false ∙ c.advance_in.ensures.ended.0 e)), λ e. absurd (true≢false e))

pub returns-clause-later : goal.returns-clause-later
returns-clause-later g c e = absurd (true≢false (sym c.if-not-advance_in.false ∙ c.advance_in.ensures.later e))

pub returns-clause-pairs : goal.returns-clause-pairs
returns-clause-pairs g c = c.advance_in.ensures.pairs

pub returns-clause-order : goal.returns-clause-order
returns-clause-order g c = c.advance_in.ensures.order

pub returns-clause-class : goal.returns-clause-class
returns-clause-class g c = c.advance_in.ensures.class
