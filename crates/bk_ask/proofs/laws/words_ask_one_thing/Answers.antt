use Rattle.bk_ask.proofs.OneAsk.{one_ask}
use Rattle.bk_ask.proofs.laws.words_ask_one_thing.Goals as goal

pub returns : goal.returns
returns c = one_ask
