use Rattle.bk_simple.proofs.OneFirst.{a_least_repeated_side_is_one as the_law}
use Rattle.bk_simple.proofs.laws.a_least_repeated_side_is_one.Goals as goal

pub returns : goal.returns
returns c = the_law
