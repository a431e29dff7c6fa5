-- Runs of a listing one after another, each from where the one before it stopped, and what they have together.
-- Statements alone; they are proved apart.
-- Example (ResumingExamples): `list --order 2 --class imperfect --limit 1`, and then the same without a limit from 2e,
-- have together what one listing without a limit has.
use Rattle.std.specs.List.{AllByRecursion}
use Rattle.std.specs.Prelude.{Contains, List, Option, [], flat_map, ℕ, ◌∷◌, ◌≡◌, ◌≤◌, ◌⊎◌}
use Rattle.bk_word.specs.Word.{Follows, Word}
use Rattle.bk_word.specs.declared.TheConstants.{LARGEST_LISTED_ORDER}
use Rattle.bk_catalogue.specs.Catalogue.{AreAscending, Entry, IsEntry}
use Rattle.bk_list.specs.Listing.{AreFirst, Catalogue, Listing}
use Rattle.bk_list.specs.StoppedListing.{AtEnd, AtLimit, Ending, EndsAs, WideAt}
use Rattle.bk_list.specs.ListingLaws.{all_after, cursor_after}

-- a run: its limit, its entries, and how it ended
pub record Run : Type 0 where
  pub limit : Option ℕ
  pub entries : List Entry
  pub ending : Ending

-- what a run from the cursor lists
abbrev pub listing_of_run : Catalogue → Word → Run → Listing
listing_of_run c cursor run = record { catalogue = c; cursor = cursor; limit = run.limit }

-- a run is a listing from the cursor
pub record IsListingRun (c : Catalogue) (cursor : Word) (run : Run) : Type 0 where
  pub first : AreFirst c cursor run.entries
  pub ends : EndsAs (listing_of_run c cursor run) run.entries run.ending

-- where the next run goes on: after the named word where one was named, and else after the word of the last entry
abbrev pub stopped_at : Word → List Entry → Ending → Word
stopped_at cursor entries AtEnd = cursor_after cursor entries
stopped_at cursor entries AtLimit = cursor_after cursor entries
stopped_at cursor entries (WideAt w) = w

-- each run goes on where the one before it stopped, from the first cursor to the last
abbrev pub AreListingRuns : Catalogue → Word → List Run → Word → Type 0
AreListingRuns c cursor [] last = last ≡ cursor
AreListingRuns c cursor (run ∷ runs) last =
    IsListingRun c cursor run × AreListingRuns c (stopped_at cursor run.entries run.ending) runs last

-- the entries of all runs
abbrev pub run_entries : List Run → List Entry
run_entries runs = flat_map (λ run. run.entries) runs

-- some run ended at this word
abbrev pub IsNamed : Word → List Run → Type 0
IsNamed w [] = ⊥
IsNamed w (run ∷ runs) = (run.ending ≡ WideAt w) ⊎ IsNamed w runs

-- there is a last run, and it ended because there were no more members
abbrev pub EndsAtEnd : List Run → Type 0
EndsAtEnd [] = ⊥
EndsAtEnd (run ∷ []) = run.ending ≡ AtEnd
EndsAtEnd (run ∷ next ∷ runs) = EndsAtEnd (next ∷ runs)

-- what the runs have together: members after the first cursor, ascending, so each once; and each member after it that
-- they lack has a word that was named, or one after the last cursor: so after a run that ended at a wide word w, a run
-- from w lacks at most the member with the word w
pub record HaveTogether (c : Catalogue) (cursor : Word) (runs : List Run) (last : Word) : Type 0 where
  pub each : AllByRecursion (IsEntry c.order c.class) (run_entries runs)
  pub after : AllByRecursion (λ e. Follows e.word cursor) (run_entries runs)
  pub ascending : AreAscending (run_entries runs)
  pub lacking : (e : Entry) → IsEntry c.order c.class e → Follows e.word cursor
      → Contains (run_entries runs) e ⊎ (IsNamed e.word runs ⊎ Follows e.word last)

abbrev pub RunsGoOn : Type 0
RunsGoOn = (c : Catalogue) (cursor last : Word) (runs : List Run) → AreListingRuns c cursor runs last
    → HaveTogether c cursor runs last

-- over all runs, up to one that ended because there were no more members, only a member whose own word was named can be
-- missing
abbrev pub OnlyNamedOnesAreMissing : Type 0
OnlyNamedOnesAreMissing = (c : Catalogue) (cursor last : Word) (runs : List Run) → AreListingRuns c cursor runs last
    → EndsAtEnd runs
    → (e : Entry) → IsEntry c.order c.class e → Follows e.word cursor
    → Contains (run_entries runs) e ⊎ IsNamed e.word runs

-- over all runs, up to one that ended because there were no more members, nothing of an order of at most 16 is missing:
-- the runs have together the entries of one listing without a limit, which ends because there are no more members
abbrev pub NothingIsMissing : Type 0
NothingIsMissing = (c : Catalogue) (cursor last : Word) (runs : List Run) → c.order ≤ LARGEST_LISTED_ORDER
    → AreListingRuns c cursor runs last → EndsAtEnd runs
    → AreFirst c cursor (run_entries runs) × EndsAs (all_after c cursor) (run_entries runs) AtEnd
