use Rattle.bk_list.proofs.NarrowListings.{nothing_is_missing as the_law}
use Rattle.bk_list.proofs.laws.nothing_is_missing.Goals as goal

pub returns : goal.returns
returns c = the_law
