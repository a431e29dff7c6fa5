use Rattle.bk_read_back.proofs.EntryLines.{a_listed_entry_is_read as the_law}
use Rattle.bk_read_back.proofs.laws.a_listed_entry_is_read.Goals as goal

pub returns : goal.returns
returns c = the_law
