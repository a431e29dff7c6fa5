use Rattle.bk_list.proofs.NarrowListings.{no_listing_ends_at_a_wide_word as the_law}
use Rattle.bk_list.proofs.laws.no_listing_ends_at_a_wide_word.Goals as goal

pub returns : goal.returns
returns c = the_law
