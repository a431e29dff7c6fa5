use Rattle.bk_verify_report.proofs.Standing.{an_entry_is_told_one_thing as the_law}
use Rattle.bk_verify_report.proofs.laws.an_entry_is_told_one_thing.Goals as goal

pub returns : goal.returns
returns c = the_law
