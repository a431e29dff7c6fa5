-- A list that others made, held against the perfect catalogue of an order: what each of its entries is, and what is
-- missing.
-- Example (VerifyExamples): line 1 has the rectangle 33x32 turned and twice as large, line 2 a square alone, line 3 the
-- rectangle as it is catalogued. Of the order 9 the entry of line 1 is new, that of line 2 foreign, that of line 3
-- repeats line 1, and 69x61 is missing.
use Rattle.std.specs.List.{AllByRecursion}
use Rattle.std.specs.Prelude.{List, ℕ, ◌++◌, ◌∷◌, ◌≡◌, ◌≢◌}
use Rattle.bk_tiling.specs.Tiling.{Tiling}
use Rattle.bk_sym.specs.Canonical.{IsCanonicalOf}
use Rattle.bk_word.specs.declared.Class.TheVariants.{Perfect}
use Rattle.bk_catalogue.specs.Catalogue.{IsMember}

-- an entry: the number of its line, from 1, and the tiling of its code
pub record Accepted : Type 0 where
  pub line : ℕ
  pub tiling : Tiling

-- the entry is that of this tiling, up to scale, turns and mirrors
abbrev pub IsOf : Tiling → Accepted → Type 0
IsOf u e = IsCanonicalOf e.tiling u

-- none of the entries is of this tiling, up to scale, turns and mirrors
abbrev pub AreNotOf : Tiling → List Accepted → Type 0
AreNotOf u entries = AllByRecursion (λ e. IsOf u e → ⊥) entries

-- a foreign entry: its canonical tiling is no member of the order
abbrev pub IsForeign : ℕ → Accepted → Type 0
IsForeign n e = (u : Tiling) → IsOf u e → IsMember n Perfect u → ⊥

-- first is the first entry of this tiling
pub record IsFirstOf (entries : List Accepted) (u : Tiling) (first : Accepted) : Type 0 where
  pub before : List Accepted
  pub after : List Accepted
  pub place : entries ≡ before ++ first ∷ after
  pub same : IsOf u first
  pub none_before : AreNotOf u before

-- a new entry: its canonical tiling is a member, and no entry before it has the same one
pub record IsNew (n : ℕ) (entries : List Accepted) (e : Accepted) : Type 0 where
  pub tiling : Tiling
  pub member : IsMember n Perfect tiling
  pub first : IsFirstOf entries tiling e

-- an entry that repeats an earlier line: its canonical tiling is a member, whose first entry is on that line
pub record IsRepeat (n : ℕ) (entries : List Accepted) (e : Accepted) (earlier : ℕ) : Type 0 where
  pub tiling : Tiling
  pub same : IsOf tiling e
  pub member : IsMember n Perfect tiling
  pub first : Accepted
  pub is_first : IsFirstOf entries tiling first
  pub line : earlier ≡ first.line
  pub other : earlier ≢ e.line

-- a missing member: no entry has it as its canonical tiling
pub record IsMissing (n : ℕ) (entries : List Accepted) (u : Tiling) : Type 0 where
  pub member : IsMember n Perfect u
  pub none : AreNotOf u entries
