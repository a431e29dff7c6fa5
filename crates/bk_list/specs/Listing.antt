-- Listings: what a listing of a catalogue writes, from a cursor and under a limit.
-- Example (ListingExamples): `list --order 2 --class imperfect`.
use Rattle.std.specs.List.{AllByRecursion}
use Rattle.std.specs.Prelude.{Contains, List, None, Option, Some, [], flat_map, length, ℕ, ⊤, ◌++◌, ◌<◌, ◌∷◌, ◌≡◌, ◌⊎◌}
use Rattle.bk_word.specs.Word.{Follows, Word}
use Rattle.bk_word.specs.declared.Class.{Class}
use Rattle.bk_catalogue.specs.Catalogue.{AreAscending, Entry, IsEntry}
use Rattle.bk_report.specs.Answers.{line}
use Rattle.bk_report.specs.Listings.{entry_text, last_line}
use Rattle.bk_report.specs.declared.listing_lines.Last.{Last}
use Rattle.bk_report.specs.declared.listing_lines.Last.TheVariants.{End, Limit, Wide}

-- a catalogue: its order and its class
pub record Catalogue : Type 0 where
  pub order : ℕ
  pub class : Class

-- what is to be listed: the entries of a catalogue after a word, the cursor, and no more than the limit where there is
-- one
pub record Listing : Type 0 where
  pub catalogue : Catalogue
  pub cursor : Word
  pub limit : Option ℕ

-- the entries of the first members after the cursor: they ascend, and each other member after the cursor
-- comes after all of them
pub record AreFirst (c : Catalogue) (cursor : Word) (entries : List Entry) : Type 0 where
  pub each : AllByRecursion (IsEntry c.order c.class) entries
  pub after : AllByRecursion (λ e. Follows e.word cursor) entries
  pub ascending : AreAscending entries
  pub none_between : (e : Entry) → IsEntry c.order c.class e → Follows e.word cursor
      → Contains entries e ⊎ AllByRecursion (λ listed. Follows e.word listed.word) entries

-- the entries are fewer than the limit, where there is one
abbrev pub IsBelowLimit : Option ℕ → List Entry → Type 0
IsBelowLimit None entries = ⊤
IsBelowLimit (Some limit) entries = length entries < limit

-- each member after the cursor is among the entries
abbrev pub HasAll : Catalogue → Word → List Entry → Type 0
HasAll c cursor entries = (e : Entry) → IsEntry c.order c.class e → Follows e.word cursor → Contains entries e

-- how a listing of these entries ends: below its limit, where there is one, because there are no more members; or at
-- its limit, whether there are more or not. None ends at a wide word (`no_listing_ends_at_a_wide_word`)
abbrev pub EndsBy : Listing → List Entry → Last → Type 0
EndsBy l entries End = IsBelowLimit l.limit entries × HasAll l.catalogue l.cursor entries
EndsBy l entries Limit = l.limit ≡ Some (length entries)
EndsBy l entries Wide = ⊥

-- the line of an entry
abbrev pub line_of : Entry → List ℕ
line_of e = line (entry_text e.tiling e.word ∷ [])

-- the bytes are a listing that ends so: an entry line for each of the first members, and one last line. The whole
-- listing of order 2 and the class imperfect is `2 2x1 [1,1] ; 2e` and `; end order 2 class imperfect listed 1`
pub record IsListing (l : Listing) (last : Last) (bytes : List ℕ) : Type 0 where
  pub entries : List Entry
  pub first : AreFirst l.catalogue l.cursor entries
  pub ends : EndsBy l entries last
  pub text : bytes ≡ flat_map line_of entries ++ last_line last l.catalogue.order l.catalogue.class (length entries) []
