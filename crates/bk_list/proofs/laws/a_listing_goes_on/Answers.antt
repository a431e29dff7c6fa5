use Rattle.bk_list.proofs.Continuing.{a_listing_goes_on}
use Rattle.bk_list.proofs.laws.a_listing_goes_on.Goals as goal

pub returns : goal.returns
returns c = a_listing_goes_on
