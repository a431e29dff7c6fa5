use Rattle.bk_text.proofs.WrittenLines.{written_sized}
use Rattle.bk_text.proofs.laws.a_written_size_and_code_are_read.Goals as goal

pub returns : goal.returns
returns c = written_sized
