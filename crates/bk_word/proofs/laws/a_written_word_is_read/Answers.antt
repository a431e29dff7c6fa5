use Rattle.bk_word.proofs.WordPieces.{written_is_text}
use Rattle.bk_word.proofs.laws.a_written_word_is_read.Goals as goal

pub returns : goal.returns
returns c = written_is_text
