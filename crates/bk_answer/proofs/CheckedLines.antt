-- Each answer of `check` accepts exactly the codes of tilings, and a line is answered as what is kept of it.
use Rattle.std.proofs.Common.{Bool, List, Option, [], arith, inl, inr, length, subst, sym, ℕ, ◌++◌, ◌<◌, ◌≡◌, ◌≤◌, ◌⊎◌}
use Rattle.std.specs.Prelude.{IfSome, ◌↔◌}
use Rattle.std.proofs.lemmas.List.{length-take-le, take_all}
use Rattle.bk_ports.specs.Lines.{kept_front}
use Rattle.bk_tiling.specs.Tiling.{Tiling, order}
use Rattle.bk_code.specs.Code.{Code}
use Rattle.bk_profile.specs.Refused.{HasCode, HasFlat}
use Rattle.bk_text.specs.CodeLine.{Flat, Item}
use Rattle.bk_report.specs.Refusals.{refusal_line}
use Rattle.bk_answer.specs.Answer.{AnswersLine, MayWant}
use Rattle.bk_answer.specs.Checked.{Accepts, IsChecked, IsReplyTo}
use Rattle.bk_answer.specs.CodeAnswer.{AnswersCodeLine, answers, no_item, refuses}
use Rattle.bk_answer.specs.Item.{HasItem, HasTiling, IsSize}
use Rattle.bk_answer.specs.declared.command.Command.{Command}
use Rattle.bk_answer.specs.declared.command.Command.TheVariants.{Memory, Plain}
use Rattle.bk_answer.specs.declared.command.MemoryCommand.TheVariants.{Flow, Solve, Word}
use Rattle.bk_answer.specs.declared.plain.PlainCommand.TheVariants.{Check}
use Rattle.bk_answer.proofs.Accepting.{accepted_exactly, first_byte, refusal_byte}
use Rattle.bk_answer.proofs.KeptFronts.{front_answer}
use Rattle.bk_laws.proofs.NumberOrder.{le_or_gt}

module _ (bytes : List ℕ) (pieces : List (List ℕ)) (refused : Bool) (an : AnswersCodeLine (Plain Check) bytes pieces refused) where
  -- any line
  accepts_some : (others : List (List ℕ)) (p : Bool) → AnswersCodeLine (Plain Check) bytes others p → Accepts others
      → (t : Tiling) × HasTiling bytes t
  accepts_some others p (no_item a) b = absurd (omega (arith, first_byte [] b))
  accepts_some others p (refuses r h) b = absurd (refusal_byte r (first_byte (refusal_line r ++ []) b))
  accepts_some others p (answers t _ has _ told) b = (t, has)

  some_accepted : (t : Tiling) → HasTiling bytes t → Accepts pieces
  some_accepted t has = (accepted_exactly bytes has.item pieces refused has.is_item an).1 (t, has.stated)

  -- a line of groups
  by_groups : (stated : Option ℕ) (size : Option (ℕ × ℕ)) (code : Code) → HasItem bytes (Item stated size code)
      → Accepts pieces ↔ (t : Tiling) × HasCode code t × IfSome stated (λ n. n ≡ order t) × IsSize size t.width t.height
  by_groups stated size code has =
      let exactly = accepted_exactly bytes (Item stated size code) pieces refused has an in (
        λ (a : Accepts pieces). let found = exactly.0 a in (found.0, found.1.laid, found.1.order_is, found.1.size_is),
        λ (found : (t : Tiling) × HasCode code t × IfSome stated (λ n. n ≡ order t) × IsSize size t.width t.height).
            exactly.1 (found.0, record { laid = found.1; order_is = found.2; size_is = found.3 }),
      )

  -- a table row
  by_row : (n width height : ℕ) (sides : List ℕ) → HasItem bytes (Flat n width height sides)
      → Accepts pieces ↔ (t : Tiling) × HasFlat width sides t × (n ≡ order t) × (height ≡ t.height)
  by_row n width height sides has =
      let exactly = accepted_exactly bytes (Flat n width height sides) pieces refused has an in (
        λ (a : Accepts pieces). let found = exactly.0 a in (found.0, found.1.laid, found.1.order_is, found.1.size_is.1),
        λ (found : (t : Tiling) × HasFlat width sides t × (n ≡ order t) × (height ≡ t.height)).
            exactly.1 (
              found.0,
              record { laid = found.1; order_is = found.2; size_is = (sym (found.1).width_is, found.3) },
            ),
      )

  is_checked : IsChecked bytes pieces
  is_checked = record {
    any_line = (
      λ (a : Accepts pieces). accepts_some pieces refused an a,
      λ (found : (t : Tiling) × HasTiling bytes t). some_accepted found.0 found.1,
    );
    grouped = by_groups;
    flat = by_row;
  }

checked_line : (command : Command) (bytes : List ℕ) (pieces : List (List ℕ)) (refused : Bool) → AnswersLine command bytes pieces refused
    → command ≡ Plain Check → IsChecked bytes pieces
checked_line command bytes pieces refused an is =
    is_checked bytes pieces refused (subst (λ (c : Command). AnswersLine c bytes pieces refused) is an)

-- the answer to what is kept of a line is a reply to the line
pub a_reply : (command : Command) (line : List ℕ) (pieces : List (List ℕ)) (refused : Bool)
    → AnswersLine command (kept_front line) pieces refused → IsReplyTo command line pieces refused
a_reply command line pieces refused an =
    let whole = (front_answer command line pieces refused).0 an in
    record { answer = whole; checked = checked_line command line pieces refused whole }

-- what is kept of a line that is not too long is the line
kept_whole : (line : List ℕ) → length (kept_front line) ≤ 8192 → kept_front line ≡ line
kept_whole line short = either (le_or_gt (length line) 8193)
  where
    either : (length line ≤ 8193) ⊎ (8193 < length line) → kept_front line ≡ line
    either (inl h) = take_all 8193 line h
    either (inr h) = absurd (omega (arith, length-take-le 8193 line (omega arith)))

wanting_short : (command : Command) (bytes : List ℕ) → MayWant command bytes → length bytes ≤ 8192
wanting_short (Plain command) bytes h = absurd h
wanting_short (Memory Word) bytes h = (h.1).is_item.short
wanting_short (Memory Flow) bytes h = (h.1).item.short
wanting_short (Memory Solve) bytes h = (h.1).item.short

-- memory may be wanting at a line where it may at what is kept of it
pub wants_whole : (command : Command) (line : List ℕ) → MayWant command (kept_front line) → MayWant command line
wants_whole command line h =
    subst (MayWant command) (kept_whole line (wanting_short command (kept_front line) h)) h
