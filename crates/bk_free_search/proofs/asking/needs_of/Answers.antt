use Rattle.std.proofs.Common.{arith, ◌+◌}
use Rattle.bk_free_search.proofs.Asks.AskedNext.{few_behind, few_up}
use Rattle.bk_free_search.specs.declared.counts.TheConstants.{FEW, MANY}
use Rattle.bk_free_search.proofs.asking.needs_of.Goals as goal

pub least_left-requires-clause-few : goal.least_left-requires-clause-few
least_left-requires-clause-few c = few_up c.args.before.now.none.passed (FEW + 1) MANY (omega arith) c.requires.before.none

pub least_left-requires-clause-small : goal.least_left-requires-clause-small
least_left-requires-clause-small c = few_behind c.args.behind.now.even (FEW + 1) MANY (omega arith) c.requires.behind

pub least_left-requires-2-clause-few : goal.least_left-requires-2-clause-few
least_left-requires-2-clause-few c = few_up c.args.before.now.even.passed (FEW + 1) MANY (omega arith) c.requires.before.even

pub least_left-requires-2-clause-small : goal.least_left-requires-2-clause-small
least_left-requires-2-clause-small c = few_behind c.args.behind.now.even (FEW + 1) MANY (omega arith) c.requires.behind

pub least_left-requires-3-clause-few : goal.least_left-requires-3-clause-few
least_left-requires-3-clause-few c = few_up c.args.before.now.under.passed (FEW + 1) MANY (omega arith) c.requires.before.under

pub least_left-requires-3-clause-small : goal.least_left-requires-3-clause-small
least_left-requires-3-clause-small c = few_behind c.args.behind.now.even (FEW + 1) MANY (omega arith) c.requires.behind

pub returns : goal.returns
returns c = record { none = c.least_left.ensures; even = c.least_left-2.ensures; under = c.least_left-3.ensures }
