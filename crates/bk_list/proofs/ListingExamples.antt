-- Listings of order 2: one imperfect tiling, and no perfect one.
use Rattle.std.specs.Fmt.{digits}
use Rattle.std.specs.Prelude.{List, None, Option, Some, codes, false, ℕ, ◌≡◌}
use Rattle.std.proofs.Common.{[], inl, inr, refl, ◌++◌, ◌∷◌}
use Rattle.bk_word.specs.declared.Class.{Class}
use Rattle.bk_word.specs.declared.Class.TheVariants.{Imperfect, Perfect}
use Rattle.bk_catalogue.proofs.Members.CatalogueExamples.{entry_is, no_perfect, only, row_entry}
use Rattle.bk_report.specs.declared.listing_lines.Last.TheVariants.{End, Limit}
use Rattle.bk_list.proofs.WholeListing.{a_whole_listing_is_the_catalogue}
use Rattle.bk_list.specs.Listing.{AreFirst, Catalogue, IsListing, Listing}
use Rattle.bk_list.specs.ListingLaws.{WritesCatalogue, all_after}
use Rattle.bk_list.specs.ListedMembers.{listing_of}
use Rattle.bk_list.specs.Writing.{BeginsListing, HasEntries, StandsBehind, WritesListing}

-- the catalogue of order 2 and a class
abbrev pub of_order_2 : Class → Catalogue
of_order_2 class = record { order = 2; class = class }

-- what is listed of the class imperfect, up to a limit
abbrev pub imperfect_up_to : Option ℕ → Listing
imperfect_up_to limit = record { catalogue = of_order_2 Imperfect; cursor = []; limit = limit }

none_yet : AreFirst (of_order_2 Imperfect) [] []
none_yet = record { each = tt; after = tt; ascending = tt; none_between = λ e is h. inr tt }

pub one_listed : AreFirst (of_order_2 Imperfect) [] (row_entry ∷ [])
one_listed = record { each = (entry_is, tt); after = (refl, tt); ascending = (tt, tt); none_between = λ e is h. inl (only e is) }

-- list --order 2 --class imperfect
pub whole_listing : IsListing (all_after (of_order_2 Imperfect) []) End
    (codes "2 2x1 [1,1] ; 2e" ++ 10 ∷ codes "; end order 2 class imperfect listed 1" ++ 10 ∷ [])
unfolding digits
whole_listing = record { entries = row_entry ∷ []; first = one_listed; ends = (tt, λ e is h. only e is); text = refl }

-- the lines of the whole catalogue of order 2 and the class imperfect
pub whole_catalogue : WritesCatalogue (of_order_2 Imperfect) (codes "2 2x1 [1,1] ; 2e" ++ 10 ∷ codes "; end order 2 class imperfect listed 1" ++ 10 ∷ [])
whole_catalogue = a_whole_listing_is_the_catalogue (of_order_2 Imperfect) _ whole_listing

-- list --order 2 --class imperfect --limit 1: the limit is reached, whether or not there are more
pub at_the_limit : IsListing (imperfect_up_to (Some 1)) Limit (codes "2 2x1 [1,1] ; 2e" ++ 10 ∷ codes "; limit order 2 class imperfect listed 1" ++ 10 ∷ [])
unfolding digits
at_the_limit = record { entries = row_entry ∷ []; first = one_listed; ends = refl; text = refl }

-- list --order 2 --class imperfect --limit 0
pub limit_0 : IsListing (imperfect_up_to (Some 0)) Limit (codes "; limit order 2 class imperfect listed 0" ++ 10 ∷ [])
unfolding digits
limit_0 = record { entries = []; first = none_yet; ends = refl; text = refl }

-- list --order 2
pub no_entries : IsListing (all_after (of_order_2 Perfect) []) End (codes "; end order 2 listed 0" ++ 10 ∷ [])
unfolding digits
no_entries = record {
  entries = [];
  first = record { each = tt; after = tt; ascending = tt; none_between = λ e is h. inr tt };
  ends = (tt, λ e is h. absurd (no_perfect e is));
  text = refl;
}

-- ---- what stands written

abbrev both_lines : List ℕ
both_lines = codes "2 2x1 [1,1] ; 2e\n; end order 2 class imperfect listed 1\n"

-- the whole listing, behind what was written before
written_whole : WritesListing (imperfect_up_to None) End (Some (codes "; order 2\n")) (Some (codes "; order 2\n" ++ both_lines))
written_whole = record { bytes = both_lines; listing = whole_listing; appends = refl }

-- a write that failed in the middle of its first line
written_begun : BeginsListing (imperfect_up_to None) (Some []) (Some (codes "2 2x1 [1,1"))
unfolding digits
written_begun = record {
  bytes = codes "2 2x1 [1,1] ; 2e\n";
  front = inl (record { entries = row_entry ∷ []; first = one_listed; within = inl tt; text = refl });
  begins = (10, refl);
}

-- all entries, but not the last line
written_entries : HasEntries (imperfect_up_to None) End 1 (Some []) (Some (codes "2 2x1 [1,1] ; 2e\n"))
unfolding digits
written_entries = record { entries = row_entry ∷ []; first = one_listed; ends = (tt, λ e is h. only e is); count = refl; appends = refl }

-- members that go on after 2e, listed without a limit
after_the_row : listing_of (record { order = 2; class = Imperfect; cursor = row_entry.word; ended = false; pushes = 3 }) None
    ≡ all_after (of_order_2 Imperfect) row_entry.word
after_the_row = refl

-- a listing with the limit 1 leaves them behind 2e
behind_the_row : StandsBehind (imperfect_up_to (Some 1)) Limit row_entry.word
behind_the_row = record { entries = row_entry ∷ []; first = one_listed; ends = refl; at = refl }
