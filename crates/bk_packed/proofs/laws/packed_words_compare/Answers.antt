use Rattle.bk_packed.proofs.PackedOrder.{packed_words_compare}
use Rattle.bk_packed.proofs.laws.packed_words_compare.Goals as goal

pub returns : goal.returns
returns c = packed_words_compare
