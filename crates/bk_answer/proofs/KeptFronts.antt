-- What is kept of a line has the answer of the line.
use Rattle.std.proofs.Common.{List, [], arith, inl, inr, length, subst, sym, ℕ, ◌<◌, ◌∷◌, ◌≡◌, ◌≤◌, ◌⊎◌}
use Rattle.std.specs.Prelude.{Bool, true, ◌↔◌}
use Rattle.std.proofs.lemmas.List.{length-take-le, take_all}
use Rattle.bk_ports.specs.Lines.{kept_front}
use Rattle.bk_report.specs.Refusals.{refusal_line}
use Rattle.bk_report.specs.declared.refusal.Refused.{Refused}
use Rattle.bk_report.specs.declared.refusal.Refused.TheVariants.{Long}
use Rattle.bk_answer.specs.AnswerLaws.{AFrontHasTheAnswer}
use Rattle.bk_answer.specs.Refusing.{too_long}
use Rattle.bk_answer.specs.declared.command.Command.{Command}
use Rattle.bk_answer.specs.declared.command.Command.TheVariants.{Memory, Plain}
use Rattle.bk_answer.specs.declared.command.MemoryCommand.TheVariants.{Flow, Solve, Word}
use Rattle.bk_answer.proofs.OneWordAnswer.{long_word_answer}
use Rattle.bk_answer.proofs.OneNetAnswer.{long_net_answer}
use Rattle.bk_answer.proofs.OneAnswer.{Cause, CommandCause, at_item, at_long, at_many, at_text, by_line, by_tiling, cause_of, command_cause}
use Rattle.bk_answer.specs.Answer.{AnswersLine}
use Rattle.bk_answer.specs.CodeAnswer.{AnswersCodeLine, answers, any_command, no_item, refuses}
use Rattle.bk_laws.proofs.NumberOrder.{le_or_gt}

-- a line of more than 8,192 bytes is refused as too long, whatever it holds
long_cause : (bytes : List ℕ) (r : Refused) → 8192 < length bytes → Cause bytes r → r ≡ Long
long_cause bytes r long (at_long h e) = e
long_cause bytes r long (at_text at h n e) = absurd (omega arith)
long_cause bytes r long (at_many item h l m e) = absurd (omega arith)
long_cause bytes r long (at_item item has c) = absurd (omega (arith, has.short))

long_refusal : (command : Command) (bytes : List ℕ) (r : Refused) → 8192 < length bytes → CommandCause command bytes r → r ≡ Long
long_refusal command bytes r long (by_line h) = long_cause bytes r long (cause_of bytes r h)
long_refusal command bytes r long (by_tiling t has n e) = absurd (omega (arith, has.is_item.short))

long_code_answer : (command : Command) (bytes others : List ℕ) (pieces : List (List ℕ)) (refused : Bool) → 8192 < length bytes
    → 8192 < length others
    → AnswersCodeLine command bytes pieces refused → AnswersCodeLine command others pieces refused
long_code_answer command bytes others pieces refused long longer (no_item a) = absurd (omega (arith, a.short))
long_code_answer command bytes others pieces refused long longer (refuses r h) =
    subst (λ (z : Refused). AnswersCodeLine command others (refusal_line z ∷ []) true)
    (sym (long_refusal command bytes r long (command_cause command bytes r h)))
    (refuses Long (any_command Long (too_long longer)))
long_code_answer command bytes others pieces refused long longer (answers t _ has _ an) = absurd (omega (arith, has.is_item.short))

long_answer : (command : Command) (bytes others : List ℕ) (pieces : List (List ℕ)) (refused : Bool) → 8192 < length bytes → 8192 < length others
    → AnswersLine command bytes pieces refused → AnswersLine command others pieces refused
long_answer (Plain command) = long_code_answer (Plain command)
long_answer (Memory Word) = long_code_answer (Memory Word)
long_answer (Memory Flow) = long_net_answer
long_answer (Memory Solve) = long_word_answer

-- what is kept of a line has just the answers that the line has
pub front_answer : AFrontHasTheAnswer
front_answer command bytes pieces refused = either (le_or_gt (length bytes) 8193)
  where
    either : (length bytes ≤ 8193) ⊎ (8193 < length bytes) → AnswersLine command (kept_front bytes) pieces refused ↔ AnswersLine command bytes pieces refused
    either (inl h) =
        let whole : kept_front bytes ≡ bytes = take_all 8193 bytes h in (
          (λ an. subst (λ (l : List ℕ). AnswersLine command l pieces refused) whole an),
          (λ an. subst (λ (l : List ℕ). AnswersLine command l pieces refused) (sym whole) an),
        )
    either (inr h) =
        let long : 8192 < length bytes = omega arith in
        let front : 8192 < length (kept_front bytes) = omega (arith, length-take-le 8193 bytes (omega arith)) in (
          (λ an. long_answer command (kept_front bytes) bytes pieces refused front long an),
          (λ an. long_answer command bytes (kept_front bytes) pieces refused long front an),
        )
