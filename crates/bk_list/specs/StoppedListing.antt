-- Listings with a third ending: one that may also stop below its limit, at a word that is wide, and names that word in
-- its last line. By `no_listing_ends_at_a_wide_word` none of an order of at most 16 does, and by
-- `each_listing_ends_in_one_of_three_ways` each listing of specs/Listing.antt is one of these.
-- Example (ListingExamples): `list --order 2 --class imperfect` ends because there are no more members.
use Rattle.std.specs.List.{AllByRecursion}
use Rattle.std.specs.Prelude.{Contains, List, Some, [], flat_map, length, ℕ, ◌++◌, ◌≡◌}
use Rattle.bk_word.specs.Word.{Follows, Word}
use Rattle.bk_skel.specs.WideWord.{IsWideWordAfter}
use Rattle.bk_catalogue.specs.Catalogue.{Entry, IsEntry}
use Rattle.bk_report.specs.Listings.{last_line}
use Rattle.bk_report.specs.declared.listing_lines.Last.{Last}
use Rattle.bk_report.specs.declared.listing_lines.Last.TheVariants.{End, Limit, Wide}
use Rattle.bk_list.specs.Listing.{AreFirst, Catalogue, HasAll, IsBelowLimit, IsListing, Listing, line_of}

-- each member after the cursor, and with a word below the bound, is among the entries
abbrev pub HasAllBelow : Catalogue → Word → Word → List Entry → Type 0
HasAllBelow c cursor bound entries =
    (e : Entry) → IsEntry c.order c.class e → Follows e.word cursor → Follows bound e.word → Contains entries e

-- a word at which a listing may stop: complete, of the order, after the cursor and wide; the entries are
-- those of all members after the cursor and below it
pub record StopsAt (c : Catalogue) (cursor : Word) (entries : List Entry) (w : Word) : Type 0 where
  pub is : IsWideWordAfter c.order cursor w
  pub below : AllByRecursion (λ e. Follows w e.word) entries
  pub all_below : HasAllBelow c cursor w entries

-- how a listing ends: because there are no more members, at its limit, or at a wide word
pub data Ending : Type 0 where
  AtEnd : Ending
  AtLimit : Ending
  WideAt : Word → Ending

-- the name of an ending
abbrev pub name_of : Ending → Last
name_of AtEnd = End
name_of AtLimit = Limit
name_of (WideAt w) = Wide

-- the last line of a listing: only a wide word is named in it
abbrev pub ending_line : Ending → Catalogue → ℕ → List ℕ
ending_line AtEnd c listed = last_line End c.order c.class listed []
ending_line AtLimit c listed = last_line Limit c.order c.class listed []
ending_line (WideAt w) c listed = last_line Wide c.order c.class listed w

-- when the listing of these entries ends so: at its limit; or below it, because there are no more members, or at a wide
-- word
abbrev pub EndsAs : Listing → List Entry → Ending → Type 0
EndsAs l entries AtEnd = IsBelowLimit l.limit entries × HasAll l.catalogue l.cursor entries
EndsAs l entries AtLimit = l.limit ≡ Some (length entries)
EndsAs l entries (WideAt w) = IsBelowLimit l.limit entries × StopsAt l.catalogue l.cursor entries w

-- the bytes are a listing that ends so: an entry line for each of the first members, and one last line
pub record IsStoppedListing (l : Listing) (ending : Ending) (bytes : List ℕ) : Type 0 where
  pub entries : List Entry
  pub first : AreFirst l.catalogue l.cursor entries
  pub ends : EndsAs l entries ending
  pub text : bytes ≡ flat_map line_of entries ++ ending_line ending l.catalogue (length entries)

-- each listing ends in one of the three ways, and the name of that one is how it ends
abbrev pub EachListingEndsInOneOfThreeWays : Type 0
EachListingEndsInOneOfThreeWays = (l : Listing) (last : Last) (bytes : List ℕ) → IsListing l last bytes
    → (ending : Ending) × (name_of ending ≡ last) × IsStoppedListing l ending bytes
