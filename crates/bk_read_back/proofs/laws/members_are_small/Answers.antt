use Rattle.bk_read_back.proofs.SmallMembers.{members_are_small as the_law}
use Rattle.bk_read_back.proofs.laws.members_are_small.Goals as goal

pub returns : goal.returns
returns c = the_law
