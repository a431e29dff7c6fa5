use Rattle.std.proofs.Common.{subst}
use Rattle.bk_free_search.proofs.Asks.AskedSigns.{whole_is_barred}
use Rattle.bk_free_search.specs.AskedSigns.{IsOver}
use Rattle.bk_free_search.specs.declared.behind.Asks.{Asks}
use Rattle.bk_free_search.proofs.questions.asks_too_much_then.Goals as goal

pub returns : goal.returns
returns c told s signs begun asked whole = whole_is_barred begun signs c.args.asked.now asked whole
    (subst (λ (a : Asks). IsOver c.args.asked.now.passed a c.args.around.now.ahead.moves c.args.begun.now.next.left) c.asks_then.ensures
    (c.is_over.ensures told))
