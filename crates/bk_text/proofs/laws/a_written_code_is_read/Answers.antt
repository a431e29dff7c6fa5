use Rattle.bk_text.proofs.WrittenLines.{written_code}
use Rattle.bk_text.proofs.laws.a_written_code_is_read.Goals as goal

pub returns : goal.returns
returns c = written_code
