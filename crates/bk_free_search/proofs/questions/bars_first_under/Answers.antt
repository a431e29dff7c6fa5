use Rattle.std.proofs.lemmas.Bool.{ltb-true}
use Rattle.bk_word.specs.declared.Sign.TheVariants.{Under}
use Rattle.bk_free_search.proofs.NextWords.SignPhases.{bars_first, first_is_barred}
use Rattle.bk_free_search.proofs.questions.bars_first_under.Goals as goal

pub returns-then-needs_left_even : goal.returns-then-needs_left_even
returns-then-needs_left_even c told s begun none apart = bars_first s.order s.board c.args.begun.now.m.count c.args.begun.now.m.signs Under none
    (c.needs_left_even.ensures c.if-needs_left_even.true s.order s.board begun.around_is c.args.begun.now.m.count Under (λ f. absurd (cc)))

pub returns-else-needs_left_even : goal.returns-else-needs_left_even
returns-else-needs_left_even c told s begun none apart = first_is_barred Under c.args.around.now.before.under c.args.around.now.needs.under begun none apart
    (begun.around_is.before_is.under apart) begun.around_is.needs_are.under
    (ltb-true c.args.begun.now.next.left c.args.around.now.needs.under told)
