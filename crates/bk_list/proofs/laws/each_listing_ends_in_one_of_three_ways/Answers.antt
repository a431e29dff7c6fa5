use Rattle.bk_list.proofs.StoppedListings.{each_listing_ends_in_one_of_three_ways as the_law}
use Rattle.bk_list.proofs.laws.each_listing_ends_in_one_of_three_ways.Goals as goal

pub returns : goal.returns
returns c = the_law
