-- What a call that answers a line comes to.
use Rattle.std.specs.Prelude.{Bool, Err, List, Ok, Option, Result, ℕ}
use Rattle.bk_ports.specs.WrittenAnswer.{HasOutcome, IsAnswerBegun}
use Rattle.bk_ports.specs.declared.Outcome.{Outcome}
use Rattle.bk_ports.specs.declared.Outcome.TheVariants.{Accepted}
use Rattle.bk_ports.specs.declared.Failed.{Failed}

-- what a call that answers a line gives: the outcome of the line, or a write that failed. `answers` says which pieces
-- may be written, and whether they are a refusal
abbrev pub IsReplyWith : (List (List ℕ) → Bool → Type 0) → Type 0 → Option (List ℕ) → Option (List ℕ)
    → Result Outcome Failed → Type 0
IsReplyWith answers may_want before after (Ok outcome) = HasOutcome answers may_want before after outcome
IsReplyWith answers may_want before after (Err failed) = IsAnswerBegun answers before after

-- the outcome of a call that wrote what is no refusal
abbrev pub accepted_if : {T : Type 0} → Result T Failed → Result Outcome Failed
accepted_if (Ok written) = Ok Accepted
accepted_if (Err failed) = Err failed
