use Rattle.bk_report.proofs.EntriesRead.{a_written_entry_is_read as the_law}
use Rattle.bk_report.proofs.laws.a_written_entry_is_read.Goals as goal

pub returns : goal.returns
returns c = the_law
