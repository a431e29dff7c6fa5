use Rattle.bk_alike.proofs.OneListing.{lines_have_one_listing as the_law}
use Rattle.bk_alike.proofs.laws.lines_have_one_listing.Goals as goal

pub returns : goal.returns
returns c = the_law
