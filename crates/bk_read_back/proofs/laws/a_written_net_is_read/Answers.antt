use Rattle.bk_read_back.proofs.NetLinesWritten.{a_written_net_is_read as the_law}
use Rattle.bk_read_back.proofs.laws.a_written_net_is_read.Goals as goal

pub returns : goal.returns
returns c = the_law
