-- What is seen of entries that were fed, what is told of each of them, and which members are missing.
-- Example (VerifyExamples): where the rectangle 33x32 is kept from line 1, at order 9, a square alone is foreign, and
-- all stays as it is.
use Rattle.std.specs.List.{AllByRecursion}
use Rattle.std.specs.Prelude.{Contains, List, [], length, ℕ, ⊤, ◌++◌, ◌∷◌, ◌≡◌, ◌≢◌, ◌≤◌}
use Rattle.bk_tiling.specs.Tiling.{Tiling}
use Rattle.bk_sym.specs.Canonical.{IsCanonicalOf}
use Rattle.bk_word.specs.Word.{Follows, Word}
use Rattle.bk_word.specs.declared.Class.TheVariants.{Perfect}
use Rattle.bk_word.specs.declared.TheConstants.{LARGEST_LISTED_ORDER, LEAST_LISTED_ORDER}
use Rattle.bk_lay.specs.TilingWord.{IsWordOf}
use Rattle.bk_catalogue.specs.Catalogue.{AreAscending, Entry, IsEntry, IsMember}
use Rattle.bk_verify_report.specs.declared.entries.Fed.{Fed}
use Rattle.bk_verify_report.specs.declared.entries.Fed.TheVariants.{Foreign, New, Repeats}

-- a member that was seen, with the line on which it was first
pub record Kept : Type 0 where
  pub line : ℕ
  pub tiling : Tiling

-- what is seen of the entries: the order, and the members that were new, in the order of first sight
pub record EntriesState : Type 0 where
  pub order : ℕ
  pub pairs : List Kept

-- the tiling stands for this member: it is its canonical tiling
pub record StandsFor (n : ℕ) (t u : Tiling) : Type 0 where
  pub canonical : IsCanonicalOf t u
  pub member : IsMember n Perfect u

-- the tiling stands for no member of the order
abbrev pub StandsForNone : ℕ → Tiling → Type 0
StandsForNone n t = (u : Tiling) → StandsFor n t u → ⊥

-- the tiling is kept from this line
abbrev pub IsKeptFrom : List Kept → Tiling → ℕ → Type 0
IsKeptFrom pairs u line = Contains pairs (record { line = line; tiling = u })

-- the tiling isn't kept
abbrev pub IsNotKept : List Kept → Tiling → Type 0
IsNotKept pairs u = AllByRecursion (λ p. p.tiling ≢ u) pairs

-- the tiling stands for a member that is kept from this line
pub record RepeatsFrom (s : EntriesState) (t : Tiling) (line : ℕ) : Type 0 where
  pub tiling : Tiling
  pub stands : StandsFor s.order t tiling
  pub kept : IsKeptFrom s.pairs tiling line

-- the tiling stands for a member that isn't kept
pub record IsFirstSight (s : EntriesState) (t : Tiling) : Type 0 where
  pub tiling : Tiling
  pub stands : StandsFor s.order t tiling
  pub new : IsNotKept s.pairs tiling

-- the entries with a tiling's member kept from this line
abbrev pub with_kept : EntriesState → ℕ → Tiling → EntriesState
with_kept s line u = record { order = s.order; pairs = s.pairs ++ record { line = line; tiling = u } ∷ [] }

-- the tiling stands for a member that wasn't kept, and is now
pub record IsTakenIn (old : EntriesState) (line : ℕ) (t : Tiling) (new : EntriesState) : Type 0 where
  pub sight : IsFirstSight old t
  pub taken : new ≡ with_kept old line sight.tiling

-- what is said of a tiling that is fed, and what is kept then
abbrev pub IsFed : EntriesState → ℕ → Tiling → Fed → EntriesState → Type 0
IsFed old line t New new = IsTakenIn old line t new
IsFed old line t (Repeats first) new = RepeatsFrom old t first × (new ≡ old)
IsFed old line t Foreign new = StandsForNone old.order t × (new ≡ old)

-- no member stands twice among the pairs
abbrev pub AreKeptApart : List Kept → Type 0
AreKeptApart [] = ⊤
AreKeptApart (p ∷ pairs) = IsNotKept pairs p.tiling × AreKeptApart pairs

-- what holds of all that is kept
pub record AreKeptEntries (s : EntriesState) : Type 0 where
  pub least : LEAST_LISTED_ORDER ≤ s.order
  pub most : s.order ≤ LARGEST_LISTED_ORDER
  pub members : AllByRecursion (λ p. IsMember s.order Perfect p.tiling) s.pairs
  pub apart : AreKeptApart s.pairs

-- each member after the cursor, and below the bound, is kept
abbrev pub AreKeptBetween : ℕ → List Kept → Word → Word → Type 0
AreKeptBetween n pairs cursor bound =
    (e : Entry) → IsEntry n Perfect e → Follows e.word cursor → Follows bound e.word → IsNotKept pairs e.tiling → ⊥

-- each member after the cursor is kept
abbrev pub AreKeptAfter : ℕ → List Kept → Word → Type 0
AreKeptAfter n pairs cursor =
    (e : Entry) → IsEntry n Perfect e → Follows e.word cursor → IsNotKept pairs e.tiling → ⊥

-- the least member after the cursor that isn't kept, and its word
pub record IsNextMissing (n : ℕ) (pairs : List Kept) (cursor : Word) (t : Tiling) (word : Word) : Type 0 where
  pub member : IsMember n Perfect t
  pub word_is : IsWordOf t word
  pub after : Follows word cursor
  pub new : IsNotKept pairs t
  pub least : AreKeptBetween n pairs cursor word

-- the word is none of those after the cursor
abbrev pub IsUpTo : Word → Word → Type 0
IsUpTo cursor word = Follows word cursor → ⊥

-- the entries of the members of a kind, up to the cursor: each once, ascending
pub record AreUpTo (n : ℕ) (Is : Tiling → Type 0) (cursor : Word) (entries : List Entry) : Type 0 where
  pub each : AllByRecursion (IsEntry n Perfect) entries
  pub such : AllByRecursion (λ e. Is e.tiling) entries
  pub up : AllByRecursion (λ e. IsUpTo cursor e.word) entries
  pub ascending : AreAscending entries
  pub all : (e : Entry) → IsEntry n Perfect e → Is e.tiling → IsUpTo cursor e.word → Contains entries e

-- so many members of the order have a word that is counted: a list of their entries, each once
pub record CountsMembers (n : ℕ) (IsCounted : Word → Type 0) (count : ℕ) : Type 0 where
  pub entries : List Entry
  pub each : AllByRecursion (IsEntry n Perfect) entries
  pub counted : AllByRecursion (λ e. IsCounted e.word) entries
  pub ascending : AreAscending entries
  pub all : (e : Entry) → IsEntry n Perfect e → IsCounted e.word → Contains entries e
  pub number : count ≡ length entries
