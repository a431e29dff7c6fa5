use Rattle.bk_word.proofs.WordOrder.{word_total}
use Rattle.bk_word.proofs.laws.words_are_in_total_order.Goals as goal

pub returns : goal.returns
returns c = word_total
