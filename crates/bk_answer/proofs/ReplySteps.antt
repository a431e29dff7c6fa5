-- Steps of answering: from what is told of a tiling to the answer to its line.
use Rattle.std.proofs.Common.{Bool, Err, List, Ok, Option, Result, [], false, subst, sym, true, ℕ, ◌+◌, ◌∷◌, ◌≡◌}
use Rattle.std.specs.Prelude.{IfOk, OnErr}
use Rattle.std.specs.Io.KnownBytes.{Appends}
use Rattle.bk_ports.specs.Causes.{AppendsPrefix}
use Rattle.bk_ports.specs.declared.Failed.{Failed}
use Rattle.bk_ports.proofs.Pieces.{begins_one, writes_one}
use Rattle.bk_ports.specs.WrittenAnswer.{HasOutcome, IsAnswerBegun, IsWritten}
use Rattle.bk_ports.specs.declared.Outcome.{Outcome}
use Rattle.bk_ports.specs.declared.Outcome.TheVariants as outcomes
use Rattle.bk_tiling.specs.Tiling.{Tiling}
use Rattle.bk_report.specs.Refusals.{refusal_line}
use Rattle.bk_report.specs.declared.refusal.Refused.{Refused}
use Rattle.bk_report.specs.declared.refusal.Refused.TheVariants.{Large, Text}
use Rattle.bk_answer.specs.declared.command.Command.{Command}
use Rattle.bk_answer.specs.Answer.{AnswersLine, MayWant}
use Rattle.bk_answer.specs.CodeAnswer.{AnswersCodeLine, AnswersTiling, answers, refuses, too_large}
use Rattle.bk_answer.specs.Replies.{IsReplyWith}
use Rattle.bk_answer.specs.Telling.{Allows, TellsPieces, tells}
use Rattle.bk_answer.specs.Item.{HasTiling}

-- an answer of one kind is one of another
module _ (A B : List (List ℕ) → Bool → Type 0) (V W : Type 0) (more : (pieces : List (List ℕ)) (refused : Bool) → A pieces refused → B pieces refused)
    (wants : V → W) (a b : Option (List ℕ)) where
  written_more : (refused : Bool) → IsWritten A a b refused → IsWritten B a b refused
  written_more refused w = record { pieces = w.pieces; answer = more w.pieces refused w.answer; written = w.written }

  -- of an outcome
  pub outcome_more : (o : Outcome) → HasOutcome A V a b o → HasOutcome B W a b o
  outcome_more outcomes.Accepted h = written_more false h
  outcome_more outcomes.Refused h = written_more true h
  outcome_more outcomes.NoMemory h = record { cause = wants h.cause; kept = h.kept }

  -- of the result of a call
  pub replies_more : (r : Result Outcome Failed) → IsReplyWith A V a b r → IsReplyWith B W a b r
  replies_more (Ok o) h = outcome_more o h
  replies_more (Err f) h = record { pieces = h.pieces; refused = h.refused; answer = more h.pieces h.refused h.answer; written = h.written }

-- the line of a refusal was written
pub refusal_replies : (A : List (List ℕ) → Bool → Type 0) (V : Type 0) (r : Refused) (a b : Option (List ℕ)) (result : Result Outcome Failed)
    → A (refusal_line r ∷ []) true
    → IfOk result (λ o. (o ≡ outcomes.Refused) × Appends a b (refusal_line r)) → OnErr result (AppendsPrefix a b (refusal_line r)) → IsReplyWith A V a b result
refusal_replies A V r a b (Ok o) h ok err = subst (HasOutcome A V a b) (sym ok.0) (writes_one A true (refusal_line r) a b h ok.1)
refusal_replies A V r a b (Err f) h ok err = begins_one A true (refusal_line r) a b h err

-- the line of a text that leaves its grammar is a reply, where the place is reckoned in two ways
pub text_replies : (A : List (List ℕ) → Bool → Type 0) (V : Type 0) (n k reckoned : ℕ) (a b : Option (List ℕ)) (result : Result Outcome Failed)
    → k ≡ reckoned → A (refusal_line (Text (n + k)) ∷ []) true
    → IfOk result (λ o. (o ≡ outcomes.Refused) × Appends a b (refusal_line (Text (n + reckoned))))
    → OnErr result (AppendsPrefix a b (refusal_line (Text (n + reckoned)))) → IsReplyWith A V a b result
text_replies A V n k reckoned a b result e h =
    refusal_replies A V (Text (n + reckoned)) a b result (subst (λ (m : ℕ). A (refusal_line (Text (n + m)) ∷ []) true) e h)

-- a tiling is answered by what is told of it
pub tells_tiling : (command : Command) (t : Tiling) (pieces : List (List ℕ)) (refused : Bool) → Allows command t → TellsPieces command t pieces refused
    → AnswersTiling command t pieces refused
tells_tiling command t pieces refused allowed (tells _ h) = (allowed, h)

-- from the tiling of a line to the line
pub line_answer : (command : Command) (bytes : List ℕ) (t : Tiling) (pieces : List (List ℕ)) (refused : Bool) → HasTiling bytes t
    → AnswersTiling command t pieces refused
    → AnswersCodeLine command bytes pieces refused
line_answer command bytes t pieces true has (not, is) = subst (λ l. AnswersCodeLine command bytes l true) (sym is) (refuses Large (too_large t has not))
line_answer command bytes t pieces false has (allowed, told) = answers t pieces has allowed told

-- what a reply says in the two cases of its result
reply_outcome : (A : List (List ℕ) → Bool → Type 0) (V : Type 0) (a b : Option (List ℕ)) (r : Result Outcome Failed) → IsReplyWith A V a b r
    → IfOk r (HasOutcome A V a b)
reply_outcome A V a b (Ok o) h = h
reply_outcome A V a b (Err f) h = tt

reply_begun : (A : List (List ℕ) → Bool → Type 0) (V : Type 0) (a b : Option (List ℕ)) (r : Result Outcome Failed) → IsReplyWith A V a b r
    → OnErr r (IsAnswerBegun A a b)
reply_begun A V a b (Ok o) h = tt
reply_begun A V a b (Err f) h = h

-- what a line's reply says in the two cases of its result, by another name of the command
pub reply_says : (d e : Command) (line : List ℕ) (a b : Option (List ℕ)) (r : Result Outcome Failed) → d ≡ e
    → IsReplyWith (AnswersLine e line) (MayWant e line) a b r
    → IfOk r (HasOutcome (AnswersLine d line) (MayWant d line) a b) × OnErr r (IsAnswerBegun (AnswersLine d line) a b)
reply_says d e line a b r is reply =
    let here : IsReplyWith (AnswersLine d line) (MayWant d line) a b r =
    subst (λ (x : Command). IsReplyWith (AnswersLine x line) (MayWant x line) a b r) (sym is) reply in (
      reply_outcome (AnswersLine d line) (MayWant d line) a b r here,
      reply_begun (AnswersLine d line) (MayWant d line) a b r here,
    )
