use Rattle.bk_list.proofs.WholeListing.{a_whole_listing_is_the_catalogue}
use Rattle.bk_list.proofs.laws.a_whole_listing_is_the_catalogue.Goals as goal

pub returns : goal.returns
returns c = a_whole_listing_is_the_catalogue
