-- The answer of check begins with 'ok' exactly where some tiling is stated.
use Rattle.std.specs.List.{concat}
use Rattle.std.proofs.Common.{Bool, List, Option, [], ap, arith, drop, get_or, length, refl, subst, sym, ℕ, ◌++◌, ◌∷◌, ◌≡◌}
use Rattle.bk_tiling.specs.Tiling.{Rectangle, Tiling}
use Rattle.bk_text.specs.CodeLine.{Line}
use Rattle.bk_text.proofs.LinesRead.{line_stands_for_one_thing}
use Rattle.bk_report.specs.AnswerWords.{ok_word}
use Rattle.bk_report.specs.Answers.{IsCheckLine, verdict_line}
use Rattle.bk_report.specs.Refusals.{refusal_line}
use Rattle.bk_report.specs.declared.refusal.Refused.{Refused}
use Rattle.bk_report.specs.declared.refusal.Refused.TheVariants.{Gap, Illegal, Large, Long, Loose, Many, More, Nodes, Nothing, Open, Order, Size}
use Rattle.bk_report.specs.declared.refusal.Refused.TheVariants.{Text, Unfinished, Wide, Wire}
use Rattle.bk_answer.specs.AnswerLaws.{CheckAcceptsTilings}
use Rattle.bk_answer.specs.Checked.{Accepts}
use Rattle.bk_answer.specs.Item.{HasItem, IsStatedBy}
use Rattle.bk_answer.specs.Refusing.{IsLineRefused}
use Rattle.bk_answer.specs.declared.command.Command.TheVariants.{Plain}
use Rattle.bk_answer.specs.declared.plain.PlainCommand.TheVariants.{Check}
use Rattle.bk_answer.proofs.OneAnswer.{CommandCause, by_line, by_tiling, cause_of, command_cause, not_refused, skip_not_stated}
use Rattle.bk_answer.specs.CodeAnswer.{AnswersCodeLine, answers, no_item, refuses}

-- the text begins with `ok`
abbrev pub BeginsWithOk : List ℕ → Type 0
BeginsWithOk text = (rest : List ℕ) × (text ≡ ok_word ++ rest)

-- an answer that accepts begins with the first byte of its first word; no refusal does
pub first_byte : (text : List ℕ) → BeginsWithOk text → get_or text 0 0 ≡ get_or ok_word 0 0
first_byte text (rest, e) = ap (λ (l : List ℕ). get_or l 0 0) e

-- the line of a refusal does not begin with the first byte of the word of an answer that accepts
pub refusal_byte : (r : Refused) → get_or (refusal_line r ++ []) 0 0 ≡ get_or ok_word 0 0 → ⊥
refusal_byte Long e = omega (arith, e)
refusal_byte (Text at) e = omega (arith, e)
refusal_byte Many e = omega (arith, e)
refusal_byte (Order sides) e = omega (arith, e)
refusal_byte (Gap group width sum) e = omega (arith, e)
refusal_byte (Open least greatest) e = omega (arith, e)
refusal_byte (Size width height) e = omega (arith, e)
refusal_byte Large e = omega (arith, e)
refusal_byte (Nodes count) e = omega (arith, e)
refusal_byte (Wire place) e = omega (arith, e)
refusal_byte (Loose node) e = omega (arith, e)
refusal_byte Wide e = omega (arith, e)
refusal_byte Nothing e = omega (arith, e)
refusal_byte (Illegal place) e = omega (arith, e)
refusal_byte Unfinished e = omega (arith, e)
refusal_byte More e = omega (arith, e)

verdict_begins : (t : Tiling) (repeated : Option ℕ) (part : Option Rectangle) → BeginsWithOk (verdict_line t repeated part ++ [])
verdict_begins t repeated part = (drop (length ok_word) (verdict_line t repeated part ++ []), refl)

check_begins : (t : Tiling) (text : List ℕ) (pieces : List (List ℕ)) → IsCheckLine t text → pieces ≡ text ∷ [] → Accepts pieces
check_begins t text pieces c e =
    subst (λ (l : List (List ℕ)). BeginsWithOk (concat l)) (sym e)
    (subst (λ (l : List ℕ). BeginsWithOk (l ++ [])) (sym c.text) (verdict_begins t c.repeated c.part))

accepted : (bytes : List ℕ) (item : Line) (pieces : List (List ℕ)) (refused : Bool) → HasItem bytes item → AnswersCodeLine (Plain Check) bytes pieces refused
    → Accepts pieces → (t : Tiling) × IsStatedBy item t
accepted bytes item pieces refused has (no_item a) b = absurd (omega (arith, first_byte [] b))
accepted bytes item pieces refused has (refuses r h) b = absurd (refusal_byte r (first_byte (refusal_line r ++ []) b))
accepted bytes item pieces refused has (answers t _ has' _ an) b =
    (t, subst (λ (i : Line). IsStatedBy i t) (line_stands_for_one_thing bytes has'.item item has'.is_item.meaning has.meaning) has'.stated)

-- check refuses for no cause of its own
pub check_refuses : (bytes : List ℕ) (r : Refused) → CommandCause (Plain Check) bytes r → IsLineRefused bytes r
check_refuses bytes r (by_line h) = h
check_refuses bytes r (by_tiling t has n e) = absurd (n tt)

accepts : (bytes : List ℕ) (item : Line) (pieces : List (List ℕ)) (refused : Bool) (t : Tiling) → HasItem bytes item
    → AnswersCodeLine (Plain Check) bytes pieces refused
    → IsStatedBy item t → Accepts pieces
accepts bytes item pieces refused t has (no_item a) st = absurd (skip_not_stated bytes item t a has st)
accepts bytes item pieces refused t has (refuses r h) st =
    absurd (not_refused bytes item t r has st (cause_of bytes r (check_refuses bytes r (command_cause (Plain Check) bytes r h))))
accepts bytes item pieces refused t has (answers u _ has' _ (text, c, e)) st = check_begins u text pieces c e

-- the answer of check begins with 'ok' exactly where some tiling has what a line states
pub accepted_exactly : CheckAcceptsTilings
accepted_exactly bytes item pieces refused has an = (
  accepted bytes item pieces refused has an,
  λ (stated : (t : Tiling) × IsStatedBy item t). accepts bytes item pieces refused stated.0 has an stated.1,
)
