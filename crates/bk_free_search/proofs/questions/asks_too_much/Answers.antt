use Rattle.bk_free_search.proofs.Asks.AskedSigns.{begun_is_barred}
use Rattle.bk_free_search.proofs.questions.asks_too_much.Goals as goal

pub returns : goal.returns
returns c told s signs begun asked from own = begun_is_barred begun signs c.args.asked.now asked from own (c.is_over.ensures told)
