use Rattle.bk_word.proofs.WordsRead.{one_word}
use Rattle.bk_word.proofs.laws.a_text_is_of_one_word.Goals as goal

pub returns : goal.returns
returns c = one_word
