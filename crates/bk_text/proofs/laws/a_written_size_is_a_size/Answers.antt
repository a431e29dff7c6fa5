use Rattle.bk_text.proofs.WrittenLines.{written_size}
use Rattle.bk_text.proofs.laws.a_written_size_is_a_size.Goals as goal

pub returns : goal.returns
returns c = written_size
