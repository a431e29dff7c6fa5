-- What is told of the lines of a list, among all its entries.
-- Example (VerifyingExamples): three lines of which nothing, a repeat and a foreign entry is told have two texts.
use Rattle.std.specs.Prelude.{Bool, List, [], false, true, ℕ, ⊤, ◌+◌, ◌++◌, ◌∷◌, ◌⊎◌}
use Rattle.bk_tiling.specs.Tiling.{Tiling}
use Rattle.bk_text.specs.CodeLine.{Skip}
use Rattle.bk_ports.specs.Lines.{kept_front}
use Rattle.bk_report.specs.ListLines.{foreign_line, refused_line, repeats_line}
use Rattle.bk_report.specs.declared.refusal.Refused.{Refused}
use Rattle.bk_answer.specs.Item.{HasItem, HasTiling}
use Rattle.bk_answer.specs.Refusing.{IsLineRefused}
use Rattle.bk_verify_report.specs.Verify.{Accepted, IsForeign, IsNew, IsRepeat}

-- what is told of a line: nothing, that it is foreign or repeats an earlier one, or why it is refused
pub data Told : Type 0 where
  nothing : Told
  foreign : Told
  repeats : ℕ → Told
  refused : Refused → Told

-- the text of what is told of a line, for the line of this number
abbrev pub told_text : ℕ → Told → List ℕ
told_text number nothing = []
told_text number foreign = foreign_line number
told_text number (repeats first) = repeats_line number first
told_text number (refused cause) = refused_line number cause

-- the texts for lines from this number on
abbrev pub texts_from : ℕ → List Told → List ℕ
texts_from number [] = []
texts_from number (told ∷ tolds) = told_text number told ++ texts_from (number + 1) tolds

-- whether a line counts by what is told of it: as foreign, as repeated, as refused
abbrev pub is_foreign : Told → Bool
is_foreign nothing = false
is_foreign foreign = true
is_foreign (repeats first) = false
is_foreign (refused cause) = false

abbrev pub is_repeat : Told → Bool
is_repeat nothing = false
is_repeat foreign = false
is_repeat (repeats first) = true
is_repeat (refused cause) = false

abbrev pub is_line_refused : Told → Bool
is_line_refused nothing = false
is_line_refused foreign = false
is_line_refused (repeats first) = false
is_line_refused (refused cause) = true

-- the line has a tiling, of whose entry this holds
pub record HasEntry (number : ℕ) (line : List ℕ) (Is : Accepted → Type 0) : Type 0 where
  pub tiling : Tiling
  pub has : HasTiling line tiling
  pub is : Is (record { line = number; tiling = tiling })

-- what is true of the line of this number, where these are all entries
abbrev pub IsTold : ℕ → List Accepted → ℕ → List ℕ → Told → Type 0
IsTold n entries number line nothing = HasItem line Skip ⊎ HasEntry number line (IsNew n entries)
IsTold n entries number line foreign = HasEntry number line (IsForeign n)
IsTold n entries number line (repeats first) = HasEntry number line (λ e. IsRepeat n entries e first)
IsTold n entries number line (refused cause) = IsLineRefused line cause

-- what is true of all lines from this number on. Of a line of more than 8,192 bytes its first 8,193 count
abbrev pub AreTold : ℕ → List Accepted → ℕ → List (List ℕ) → List Told → Type 0
AreTold n entries number [] [] = ⊤
AreTold n entries number [] (told ∷ tolds) = ⊥
AreTold n entries number (line ∷ lines) [] = ⊥
AreTold n entries number (line ∷ lines) (told ∷ tolds) =
    IsTold n entries number (kept_front line) told × AreTold n entries (number + 1) lines tolds

-- the entries of lines from this number on: those that check accepts, in order
pub data AreEntries : ℕ → List (List ℕ) → List Accepted → Type 0 where
  no_line : (number : ℕ) → AreEntries number [] []
  accepted : (number : ℕ) (line : List ℕ) (lines : List (List ℕ)) (t : Tiling) (entries : List Accepted)
      → HasTiling (kept_front line) t → AreEntries (number + 1) lines entries
      → AreEntries number (line ∷ lines) (record { line = number; tiling = t } ∷ entries)
  passed : (number : ℕ) (line : List ℕ) (lines : List (List ℕ)) (entries : List Accepted)
      → ((t : Tiling) → HasTiling (kept_front line) t → ⊥) → AreEntries (number + 1) lines entries
      → AreEntries number (line ∷ lines) entries

-- what is told of all lines of a list
pub record IsToldOf (n : ℕ) (lines : List (List ℕ)) (tolds : List Told) : Type 0 where
  pub entries : List Accepted
  pub are_entries : AreEntries 1 lines entries
  pub told : AreTold n entries 1 lines tolds
