use Rattle.std.proofs.Common.{ap, cond, ◌∙◌}
use Rattle.bk_free_search.proofs.Asks.AskedNext.{asked_own, inside}
use Rattle.bk_free_search.proofs.asking.asked_with.Goals as goal

pub returns-clause-asked : goal.returns-clause-asked
returns-clause-asked c front signs asked from = asked_own front signs c.args.sign c.args.asked.now c.past_one.result c.one_if.result
    (inside front signs from) asked c.past_one.ensures.passed c.past_one.ensures.few (c.one_if.ensures ∙ ap (λ b. cond b 1 0) c.is_even.ensures)

pub returns-clause-few : goal.returns-clause-few
returns-clause-few c = c.past_one.ensures.few
