use Rattle.bk_text.proofs.WrittenLines.{written_item}
use Rattle.bk_text.proofs.laws.a_written_item_is_read.Goals as goal

pub returns : goal.returns
returns c = written_item
