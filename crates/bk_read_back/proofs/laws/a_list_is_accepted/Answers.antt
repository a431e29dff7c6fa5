use Rattle.bk_read_back.proofs.Accepted.{a_list_is_accepted as the_law}
use Rattle.bk_read_back.proofs.laws.a_list_is_accepted.Goals as goal

pub returns : goal.returns
returns c = the_law
