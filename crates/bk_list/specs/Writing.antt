-- What a listing writes, and what of it stands written where a write fails.
-- Example (ListingExamples): the listing of order 2 and the class imperfect, written behind a line that stood there;
-- all its entries without the last line; and `2 2x1 [1,1`, where the write of its first line failed. With the limit 1
-- the members then go on behind 2e.
use Rattle.std.specs.Prelude.{Bool, List, Option, Some, false, flat_map, length, true, ℕ, ◌≡◌, ◌⊎◌}
use Rattle.std.specs.Io.KnownBytes.{Appends}
use Rattle.bk_ports.specs.Causes.{AppendsPrefix}
use Rattle.bk_word.specs.Word.{Word}
use Rattle.bk_catalogue.specs.Catalogue.{Entry}
use Rattle.bk_report.specs.declared.listing_lines.Last.{Last}
use Rattle.bk_list.specs.Listing.{AreFirst, EndsBy, IsBelowLimit, IsListing, Listing, line_of}
use Rattle.bk_list.specs.ListingLaws.{cursor_after}
use Rattle.bk_catalogue.specs.Following.{HasNoneAfter}
use Rattle.bk_members.specs.NextMember.{IsNextMember, MembersState}

-- a listing that ends so was written, and nothing else
pub record WritesListing (l : Listing) (last : Last) (written written_after : Option (List ℕ)) : Type 0 where
  pub bytes : List ℕ
  pub listing : IsListing l last bytes
  pub appends : Appends written written_after bytes

-- the bytes are the entry lines of the first members, of no more than the limit: every listing begins with them
pub record AreEntryLines (l : Listing) (bytes : List ℕ) : Type 0 where
  pub entries : List Entry
  pub first : AreFirst l.catalogue l.cursor entries
  pub within : IsBelowLimit l.limit entries ⊎ (l.limit ≡ Some (length entries))
  pub text : bytes ≡ flat_map line_of entries

-- a beginning of a listing, or of its first entry lines, was written, and nothing else
pub record BeginsListing (l : Listing) (written written_after : Option (List ℕ)) : Type 0 where
  pub bytes : List ℕ
  pub front : AreEntryLines l bytes ⊎ ((last : Last) × IsListing l last bytes)
  pub begins : AppendsPrefix written written_after bytes

-- the members went on from the cursor behind a listing that ends so: behind its last entry, or nowhere if it has none.
-- So nothing beyond the limit was looked at
pub record StandsBehind (l : Listing) (last : Last) (reached : Word) : Type 0 where
  pub entries : List Entry
  pub first : AreFirst l.catalogue l.cursor entries
  pub ends : EndsBy l entries last
  pub at : reached ≡ cursor_after l.cursor entries

-- whether there was a member after the cursor. Then the least one was listed, and its word is where the members are
-- then; else nothing was written, and they stay
abbrev pub IsNext : MembersState → MembersState → Option (List ℕ) → Option (List ℕ) → Bool → Type 0
IsNext from then written written_after true = (e : Entry) × IsNextMember from.order from.class from.cursor e
    × (then.cursor ≡ e.word) × Appends written written_after (line_of e)
IsNext from then written written_after false =
    HasNoneAfter from.order from.class from.cursor × (then.cursor ≡ from.cursor) × (written_after ≡ written)

-- the write of the next entry failed
abbrev pub IsNextBegun : MembersState → MembersState → Option (List ℕ) → Option (List ℕ) → Type 0
IsNextBegun from then written written_after = (e : Entry) × IsNextMember from.order from.class from.cursor e
    × (then.cursor ≡ e.word) × AppendsPrefix written written_after (line_of e)

-- all entries of a listing that ends so were written, as many as said
pub record HasEntries (l : Listing) (last : Last) (listed : ℕ) (written written_after : Option (List ℕ)) : Type 0 where
  pub entries : List Entry
  pub first : AreFirst l.catalogue l.cursor entries
  pub ends : EndsBy l entries last
  pub count : listed ≡ length entries
  pub appends : Appends written written_after (flat_map line_of entries)
