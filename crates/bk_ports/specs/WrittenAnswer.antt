-- What one answer to a line writes. `answers` says which pieces the line may get, and whether they are the text of a
-- refusal; `before` and `after` are the bytes that a sink has taken, where it tells them.
-- Example (AnswerExamples): where a line gets its bytes and then a line feed, and the second write fails, its bytes
-- stand there.
use Rattle.std.specs.Prelude.{ℕ, Bool, true, false, List, Option}
use Rattle.std.specs.List.{concat}
use Rattle.std.specs.Io.KnownBytes.{Appends, Keeps}
use Rattle.bk_ports.specs.Causes.{AppendsPrefix}
use Rattle.bk_ports.specs.declared.Outcome.{Outcome}
use Rattle.bk_ports.specs.declared.Outcome.TheVariants as outcomes
use Rattle.bk_ports.specs.declared.line.Stop.{Stop}
use Rattle.bk_ports.specs.declared.line.Stop.TheVariants as stops

-- a whole answer was written
pub record IsWritten (answers : List (List ℕ) → Bool
    → Type 0) (before after : Option (List ℕ)) (refused : Bool) : Type 0 where
  pub pieces : List (List ℕ)
  pub answer : answers pieces refused
  pub written : Appends before after (concat pieces)

-- an answer was begun
pub record IsAnswerBegun (answers : List (List ℕ) → Bool → Type 0) (before after : Option (List ℕ)) : Type 0 where
  pub pieces : List (List ℕ)
  pub refused : Bool
  pub answer : answers pieces refused
  pub written : AppendsPrefix before after (concat pieces)

-- memory was wanting, as it may at this line, and nothing was written
pub record IsWanting (may_want : Type 0) (before after : Option (List ℕ)) : Type 0 where
  pub cause : may_want
  pub kept : Keeps before after

-- what an outcome says
abbrev pub HasOutcome : (List (List ℕ) → Bool → Type 0) → Type 0 → Option (List ℕ) → Option (List ℕ) → Outcome → Type 0
HasOutcome answers may_want before after outcomes.Accepted = IsWritten answers before after false
HasOutcome answers may_want before after outcomes.Refused = IsWritten answers before after true
HasOutcome answers may_want before after outcomes.NoMemory = IsWanting may_want before after

-- why the line is not answered
abbrev pub IsStopped : (List (List ℕ) → Bool → Type 0) → Type 0 → Option (List ℕ) → Option (List ℕ) → Stop → Type 0
IsStopped answers may_want before after stops.WriteFailed = IsAnswerBegun answers before after
IsStopped answers may_want before after stops.NoMemory = IsWanting may_want before after
