use Rattle.bk_top.proofs.WholeLists.{a_list_is_whole_unless_a_write_fails as the_law}
use Rattle.bk_top.proofs.laws.a_list_is_whole_unless_a_write_fails.Goals as goal

pub returns : goal.returns
returns c = the_law
