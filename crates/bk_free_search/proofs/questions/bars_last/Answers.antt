use Rattle.std.proofs.Common.{[], arith, ◌++◌, ◌-◌, ◌∷◌}
use Rattle.std.proofs.lemmas.List.{length-append}
use Rattle.bk_free_search.proofs.Asks.AskedNext.{few_up}
use Rattle.bk_free_search.specs.declared.counts.TheConstants.{MANY}
use Rattle.bk_free_search.proofs.questions.bars_last.Goals as goal

pub returns-then-lacks_even : goal.returns-then-lacks_even
returns-then-lacks_even c told s with_own last not = c.lacks_even.ensures c.if-lacks_even.true s c.args.begun.now
    with_own.begun with_own.asked_is last c.args.sign not

pub asked_with-requires-clause-few : goal.asked_with-requires-clause-few
asked_with-requires-clause-few c = few_up c.args.asked.now.passed (MANY - 1) MANY (omega arith) c.requires.few

pub asks_too_much_then-requires-clause-few : goal.asks_too_much_then-requires-clause-few
asks_too_much_then-requires-clause-few c = c.asked_with.ensures.few (MANY - 1) c.requires.few

pub returns-else-lacks_even : goal.returns-else-lacks_even
returns-else-lacks_even c told s with_own last not = c.asks_too_much_then.ensures told s
    (c.args.begun.now.m.signs ++ c.args.sign ∷ []) with_own.begun
    (c.asked_with.ensures.asked s.board c.args.begun.now.m.signs with_own.asked_is with_own.from)
    (omega (arith, length-append c.args.begun.now.m.signs (c.args.sign ∷ []), last))
