-- What is seen of members that are listed: the catalogue that they are of, and what is to be listed of them.
-- Example (ListingExamples): of members of order 2 that go on after 2e, a listing without a limit.
use Rattle.std.specs.Prelude.{Option, ℕ}
use Rattle.bk_members.specs.NextMember.{MembersState}
use Rattle.bk_list.specs.Listing.{Catalogue, Listing}

-- the catalogue of these members
abbrev pub catalogue_of : MembersState → Catalogue
catalogue_of members = record { order = members.order; class = members.class }

-- the listing of these members after their cursor, up to a limit
abbrev pub listing_of : MembersState → Option ℕ → Listing
listing_of members limit = record { catalogue = catalogue_of members; cursor = members.cursor; limit = limit }
