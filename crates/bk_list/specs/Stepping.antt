-- At most how many steps a listing takes. A step is a push of a move; a listing calls its walk once for each entry, and
-- once more if it looks for an entry and there is none.
-- Examples (SteppingExamples): a listing with the limit 0 takes none; 20 steps are within what `list --order 2 --class
-- imperfect --limit 1` may take: four for the legal words 1, 1.1, 2a and 2e up to the word 2e of its entry, and 16 for
-- the entry.
use Rattle.std.specs.Io.KnownBytes.{Appends}
use Rattle.std.specs.Prelude.{Bool, List, None, Option, Some, [], false, flat_map, length, take, true, ℕ, ◌*◌, ◌++◌}
use Rattle.std.specs.Prelude.{◌+◌, ◌-◌, ◌∷◌, ◌≡◌, ◌⊎◌}
use Rattle.bk_word.specs.Word.{Word}
use Rattle.bk_word.specs.declared.TheConstants.{LARGEST_LISTED_ORDER}
use Rattle.bk_catalogue.specs.Catalogue.{Entry}
use Rattle.bk_report.specs.Listings.{last_line}
use Rattle.bk_report.specs.declared.listing_lines.Last.{Last}
use Rattle.bk_report.specs.declared.listing_lines.Last.TheVariants.{End, Limit, Wide}
use Rattle.bk_catalogue.specs.Tree.{HasAtLeast, IsAtMostTree}
use Rattle.bk_list.specs.Listing.{AreFirst, EndsBy, IsBelowLimit, Listing, line_of}
use Rattle.bk_list.specs.ListingLaws.{cursor_after}

-- at most that many steps in that many calls: the tree count, of the legal words after the cursor and not after the
-- bound, and 16 for each call
abbrev pub IsAtMostTreeAnd : ℕ → Word → Option Word → ℕ → ℕ → Type 0
IsAtMostTreeAnd n cursor bound calls steps = HasAtLeast n cursor bound (steps - LARGEST_LISTED_ORDER * calls)

-- at most that many steps for a listing of these entries that ends so. At its limit: as many as there are legal words
-- up to that of its last entry, and 16 for each entry. At the end, where it has made one call more: as many as there
-- are legal words after the cursor, and 16 for each entry and 16 more
abbrev pub AreStepsTo : Last → ℕ → Word → List Entry → ℕ → Type 0
AreStepsTo Limit n cursor entries steps =
    IsAtMostTreeAnd n cursor (Some (cursor_after cursor entries)) (length entries) steps
AreStepsTo End n cursor entries steps = IsAtMostTreeAnd n cursor None (length entries + 1) steps
AreStepsTo Wide n cursor entries steps = ⊥

-- a listing that ends so takes at most that many steps for its entries
pub record TakesSteps (l : Listing) (last : Last) (steps : ℕ) : Type 0 where
  pub entries : List Entry
  pub first : AreFirst l.catalogue l.cursor entries
  pub ends : EndsBy l entries last
  pub few : AreStepsTo last l.catalogue.order l.cursor entries steps

-- where the write of an entry's line failed: the lines of the entries before it stand written, and a beginning of its
-- own; the members go on behind it. The steps are at most those of a listing that ends at its limit with this entry
pub record StoppedAtEntry (l : Listing) (written written_after : Option (List ℕ)) (reached : Word)
    (steps : ℕ) : Type 0 where
  pub entries : List Entry
  pub failed : Entry
  pub first : AreFirst l.catalogue l.cursor (entries ++ failed ∷ [])
  pub within : IsBelowLimit l.limit (entries ++ failed ∷ []) ⊎ (l.limit ≡ Some (length (entries ++ failed ∷ [])))
  pub some : ℕ
  pub begins : Appends written written_after (flat_map line_of entries ++ take some (line_of failed))
  pub at : reached ≡ failed.word
  pub few : AreStepsTo Limit l.catalogue.order l.cursor (entries ++ failed ∷ []) steps

-- where the write of the last line failed: the lines of all entries stand written, and a beginning of the last one; the
-- members go on behind the last entry. The steps are at most those of the whole listing
pub record StoppedAtLast (l : Listing) (written written_after : Option (List ℕ)) (reached : Word)
    (steps : ℕ) : Type 0 where
  pub entries : List Entry
  pub last : Last
  pub first : AreFirst l.catalogue l.cursor entries
  pub ends : EndsBy l entries last
  pub some : ℕ
  pub begins : Appends written written_after (flat_map line_of entries
      ++ take some (last_line last l.catalogue.order l.catalogue.class (length entries) []))
  pub at : reached ≡ cursor_after l.cursor entries
  pub few : AreStepsTo last l.catalogue.order l.cursor entries steps

-- a listing whose writing failed has taken at most that many steps for the entries that it found, and the members go on
-- behind them
abbrev pub TookSteps : Listing → Option (List ℕ) → Option (List ℕ) → Word → ℕ → Type 0
TookSteps l written written_after reached steps =
    StoppedAtEntry l written written_after reached steps ⊎ StoppedAtLast l written written_after reached steps

-- a listing of these entries that ends so took at most that many steps for them, and the members go on behind the last
-- one
pub record IsReached (l : Listing) (last : Last) (entries : List Entry) (reached : Word) (steps : ℕ) : Type 0 where
  pub at : reached ≡ cursor_after l.cursor entries
  pub few : AreStepsTo last l.catalogue.order l.cursor entries steps

-- at most that many steps for one call: 16, and as many as there are legal words up to that of the member that it
-- found, or after the cursor where it found none
abbrev pub AreNextSteps : Bool → ℕ → Word → Word → ℕ → Type 0
AreNextSteps true n cursor then steps = IsAtMostTree n cursor (Some then) steps
AreNextSteps false n cursor then steps = IsAtMostTree n cursor None steps
