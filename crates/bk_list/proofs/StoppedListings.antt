-- Each listing ends in one of three ways.
use Rattle.std.proofs.Common.{refl}
use Rattle.bk_report.specs.declared.listing_lines.Last.TheVariants.{End, Limit, Wide}
use Rattle.bk_list.specs.StoppedListing.{AtEnd, AtLimit, EachListingEndsInOneOfThreeWays}

-- a listing ends at its limit, at the last member, or at a wide word
pub each_listing_ends_in_one_of_three_ways : EachListingEndsInOneOfThreeWays
each_listing_ends_in_one_of_three_ways asked End bytes l =
    (AtEnd, refl, record { entries = l.entries; first = l.first; ends = l.ends; text = l.text })
each_listing_ends_in_one_of_three_ways asked Limit bytes l =
    (AtLimit, refl, record { entries = l.entries; first = l.first; ends = l.ends; text = l.text })
each_listing_ends_in_one_of_three_ways asked Wide bytes l = absurd l.ends
