-- What a verifier tells of an entry is one thing, and the truth. Statements alone; each is proved apart.
-- Example (VerifyExamples): what is told there is the one thing that is told.
use Rattle.std.specs.List.{AllByRecursion}
use Rattle.std.specs.Prelude.{List, [], ℕ, ◌++◌, ◌∷◌, ◌↔◌, ◌≡◌, ◌≢◌}
use Rattle.bk_tiling.specs.Tiling.{IsTiling, Tiling}
use Rattle.bk_word.specs.declared.Class.TheVariants.{Perfect}
use Rattle.bk_catalogue.specs.Catalogue.{IsMember}
use Rattle.bk_verify_report.specs.KeptEntries.{IsFed, IsKeptFrom, AreKeptEntries, IsNotKept, Kept, EntriesState}
use Rattle.bk_verify_report.specs.Verify.{Accepted, AreNotOf, IsFirstOf, IsForeign, IsNew, IsRepeat}
use Rattle.bk_verify_report.specs.declared.entries.Fed.{Fed}
use Rattle.bk_verify_report.specs.declared.entries.Fed.TheVariants.{Foreign, New, Repeats}

-- of a tiling only one thing can be told. So Foreign is told exactly where the canonical tiling is no member, and
-- Repeats exactly where it is a member that is kept, with the line from which it is kept
abbrev pub AnEntryIsToldOneThing : Type 0
AnEntryIsToldOneThing = (old : EntriesState) (line : ℕ) (t : Tiling) (a b : Fed) (x y : EntriesState)
    → AreKeptEntries old → IsTiling t → IsFed old line t a x → IsFed old line t b y → a ≡ b

-- the line is that of the tiling's first entry
pub record IsFirstLine (entries : List Accepted) (u : Tiling) (line : ℕ) : Type 0 where
  pub first : Accepted
  pub is_first : IsFirstOf entries u first
  pub line_is : line ≡ first.line

-- what is kept are the members that the entries have, each from the line of its first entry
pub record KeepsFirsts (n : ℕ) (entries : List Accepted) (pairs : List Kept) : Type 0 where
  pub firsts : (u : Tiling) (line : ℕ) → IsKeptFrom pairs u line → IsFirstLine entries u line
  pub all : (u : Tiling) → IsMember n Perfect u → IsNotKept pairs u → AreNotOf u entries

-- what is told of an entry, where these are all entries
abbrev pub IsTrueOf : ℕ → List Accepted → Accepted → Fed → Type 0
IsTrueOf n entries e New = IsNew n entries e
IsTrueOf n entries e (Repeats earlier) = IsRepeat n entries e earlier
IsTrueOf n entries e Foreign = IsForeign n e

-- at first no entry is there, and nothing is kept. Where what is kept is right and one entry more is fed, on a line of
-- its own, what is told of it is true, and what is kept then is right
pub record AVerifierTellsTheTruth : Type 0 where
  pub at_first : (n : ℕ) → KeepsFirsts n [] []
  pub told : (old : EntriesState) (entries : List Accepted) (e : Accepted) (fed : Fed) (new : EntriesState)
      → IsTiling e.tiling → AllByRecursion (λ f. f.line ≢ e.line) entries → KeepsFirsts old.order entries old.pairs
      → IsFed old e.line e.tiling fed new → IsTrueOf old.order (entries ++ e ∷ []) e fed
  pub kept : (old : EntriesState) (entries : List Accepted) (e : Accepted) (fed : Fed) (new : EntriesState)
      → IsTiling e.tiling → KeepsFirsts old.order entries old.pairs
      → IsFed old e.line e.tiling fed new → KeepsFirsts new.order (entries ++ e ∷ []) new.pairs

-- what is true of an entry stays so where more entries follow
abbrev pub TruthsStay : Type 0
TruthsStay = (n : ℕ) (entries more : List Accepted) (e : Accepted) (fed : Fed)
    → IsTrueOf n entries e fed → IsTrueOf n (entries ++ more) e fed

-- a member isn't kept exactly where no entry has it as its canonical tiling: so the missing ones are those that aren't
-- kept
abbrev pub MissingOnesAreNotKept : Type 0
MissingOnesAreNotKept = (n : ℕ) (entries : List Accepted) (pairs : List Kept) (u : Tiling)
    → KeepsFirsts n entries pairs → IsMember n Perfect u → IsNotKept pairs u ↔ AreNotOf u entries
