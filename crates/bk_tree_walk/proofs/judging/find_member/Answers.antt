-- A member is found by its flow, and without a fit one there is none.
use Rattle.std.proofs.Common.{sym, true≢false}
use Rattle.bk_tree_walk.proofs.judging.find_member.Goals as goal

pub fit_flow-requires-clause-whole : goal.fit_flow-requires-clause-whole
fit_flow-requires-clause-whole c = c.requires.whole

pub fit_flow-requires-clause-few : goal.fit_flow-requires-clause-few
fit_flow-requires-clause-few c = c.requires.few

pub find_by_flow-requires-clause-whole : goal.find_by_flow-requires-clause-whole
find_by_flow-requires-clause-whole c = c.requires.whole

pub find_by_flow-requires-clause-flow : goal.find_by_flow-requires-clause-flow
find_by_flow-requires-clause-flow c = c.in-Some.ensures.flow

pub find_by_flow-requires-clause-fit : goal.find_by_flow-requires-clause-fit
find_by_flow-requires-clause-fit c = c.in-Some.ensures.fit

pub returns-in-Some-clause-yes : goal.returns-in-Some-clause-yes
returns-in-Some-clause-yes c = c.find_by_flow.ensures.yes

pub returns-in-Some-clause-no : goal.returns-in-Some-clause-no
returns-in-Some-clause-no c = c.find_by_flow.ensures.no

pub returns-in-None-clause-yes : goal.returns-in-None-clause-yes
returns-in-None-clause-yes c = λ e. absurd (true≢false (sym e))

pub returns-in-None-clause-no : goal.returns-in-None-clause-no
returns-in-None-clause-no c = λ _. c.in-None.ensures.none
