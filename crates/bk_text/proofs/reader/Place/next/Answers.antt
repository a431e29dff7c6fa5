-- Each arm of `next` gives what the definition gives at that place and that byte.
use Rattle.std.proofs.Common.{None, Option, Some, ap, refl, sym, ℕ, ◌∙◌, ◌≡◌}
use Rattle.bk_text.specs.LineReader.{next_line_place}
use Rattle.bk_text.specs.declared.reader.Bracket.{Bracket}
use Rattle.bk_text.specs.declared.reader.Field.TheVariants.{Height, RowSide, Third}
use Rattle.bk_text.specs.declared.reader.Header.{Header}
use Rattle.bk_text.specs.declared.reader.ByteKind.{ByteKind}
use Rattle.bk_text.specs.declared.reader.ByteKind.TheVariants.{Blank, Digit, Open}
use Rattle.bk_text.specs.declared.reader.Place.{Place}
use Rattle.bk_text.specs.declared.reader.Place.TheVariants.{BeforeGroup, BeforeHeight, BehindSecond, BehindThird, Number}
use Rattle.bk_text.specs.declared.reader.Table.{Table}
use Rattle.bk_text.proofs.reader.Place.next.Goals as goal

-- bytes with which a line does not go on at a place
none_second : (order width : ℕ) (k : ByteKind) → (k ≡ Blank → ⊥) → ((d : ℕ) → k ≡ Digit d → ⊥) → None ≡ next_line_place (BehindSecond order width) k
none_second order width Blank blank digit = absurd (blank refl)
none_second order width (Digit d) blank digit = absurd (digit d refl)
none_second order width k blank digit = refl

none_height : (order : Option ℕ) (width : ℕ) (k : ByteKind) → ((d : ℕ) → k ≡ Digit d → ⊥) → None ≡ next_line_place (BeforeHeight order width) k
none_height order width (Digit d) digit = absurd (digit d refl)
none_height order width k digit = refl

none_third : (table : Table) (k : ByteKind) → (k ≡ Blank → ⊥) → ((d : ℕ) → k ≡ Digit d → ⊥) → None ≡ next_line_place (BehindThird table) k
none_third table Blank blank digit = absurd (blank refl)
none_third table (Digit d) blank digit = absurd (digit d refl)
none_third table k blank digit = refl

none_group : (header : Header) (k : ByteKind) → (k ≡ Blank → ⊥) → ((b : Bracket) → k ≡ Open b → ⊥) → None ≡ next_line_place (BeforeGroup header) k
none_group header Blank blank opens = absurd (blank refl)
none_group header (Open b) blank opens = absurd (opens b refl)
none_group header k blank opens = refl

pub at_start-requires : goal.at_start-requires
at_start-requires c = tt

pub next-requires : goal.next-requires
next-requires c = tt

pub behind_first-requires : goal.behind_first-requires
behind_first-requires c = tt

pub from-requires : goal.from-requires
from-requires c = tt

pub from-requires-in-Digit-kind : goal.from-requires-in-Digit-kind
from-requires-in-Digit-kind c = tt

pub from-requires-in-Digit-kind-2 : goal.from-requires-in-Digit-kind-2
from-requires-in-Digit-kind-2 c = tt

pub behind_row_side-requires : goal.behind_row_side-requires
behind_row_side-requires c = tt

pub before_side-requires : goal.before_side-requires
before_side-requires c = tt

pub behind_side-requires : goal.behind_side-requires
behind_side-requires c = tt

pub behind_group-requires : goal.behind_group-requires
behind_group-requires c = tt

pub returns-in-Start : goal.returns-in-Start
returns-in-Start c = c.at_start.ensures ∙ ap (λ (p : Place). next_line_place p c.args.kind) (sym c.in-Start.is)

pub returns-in-Number : goal.returns-in-Number
returns-in-Number c = c.next.ensures ∙ ap (λ (p : Place). next_line_place p c.args.kind) (sym c.in-Number.is)

pub returns-in-BehindFirst : goal.returns-in-BehindFirst
returns-in-BehindFirst c = c.behind_first.ensures ∙ ap (λ (p : Place). next_line_place p c.args.kind) (sym c.in-BehindFirst.is)

pub returns-in-Blank : goal.returns-in-Blank
returns-in-Blank c = λ i. next_line_place (sym c.in-BehindSecond.is i) (sym c.in-Blank.is i)

pub returns-in-Digit : goal.returns-in-Digit
returns-in-Digit c =
    ap (λ (n : ℕ). Some (Number (Third c.in-BehindSecond.order c.in-BehindSecond.width) n)) c.from.ensures
    ∙ (λ i. next_line_place (sym c.in-BehindSecond.is i) (sym c.in-Digit.is i))

pub returns-in_default : goal.returns-in_default
returns-in_default c =
    none_second c.in-BehindSecond.order c.in-BehindSecond.width c.args.kind c.in_default.not-Blank c.in_default.not-Digit
    ∙ ap (λ (p : Place). next_line_place p c.args.kind) (sym c.in-BehindSecond.is)

pub returns-in-Digit-kind : goal.returns-in-Digit-kind
returns-in-Digit-kind c =
    ap (λ (n : ℕ). Some (Number (Height c.in-BeforeHeight.order c.in-BeforeHeight.width) n)) c.from-in-Digit-kind.ensures
    ∙ (λ i. next_line_place (sym c.in-BeforeHeight.is i) (sym c.in-Digit-kind.is i))

pub returns-in_default-kind : goal.returns-in_default-kind
returns-in_default-kind c =
    none_height c.in-BeforeHeight.order c.in-BeforeHeight.width c.args.kind c.in_default-kind.not-Digit
    ∙ ap (λ (p : Place). next_line_place p c.args.kind) (sym c.in-BeforeHeight.is)

pub returns-in-Blank-kind : goal.returns-in-Blank-kind
returns-in-Blank-kind c = λ i. next_line_place (sym c.in-BehindThird.is i) (sym c.in-Blank-kind.is i)

pub returns-in-Digit-kind-2 : goal.returns-in-Digit-kind-2
returns-in-Digit-kind-2 c =
    ap (λ (n : ℕ). Some (Number (RowSide c.in-BehindThird.table) n)) c.from-in-Digit-kind-2.ensures
    ∙ (λ i. next_line_place (sym c.in-BehindThird.is i) (sym c.in-Digit-kind-2.is i))

pub returns-in_default-kind-2 : goal.returns-in_default-kind-2
returns-in_default-kind-2 c =
    none_third c.in-BehindThird.table c.args.kind c.in_default-kind-2.not-Blank c.in_default-kind-2.not-Digit
    ∙ ap (λ (p : Place). next_line_place p c.args.kind) (sym c.in-BehindThird.is)

pub returns-in-BehindRowSide : goal.returns-in-BehindRowSide
returns-in-BehindRowSide c = c.behind_row_side.ensures ∙ ap (λ (p : Place). next_line_place p c.args.kind) (sym c.in-BehindRowSide.is)

pub returns-in-Blank-kind-2 : goal.returns-in-Blank-kind-2
returns-in-Blank-kind-2 c = λ i. next_line_place (sym c.in-BeforeGroup.is i) (sym c.in-Blank-kind-2.is i)

pub returns-in-Open : goal.returns-in-Open
returns-in-Open c = λ i. next_line_place (sym c.in-BeforeGroup.is i) (sym c.in-Open.is i)

pub returns-in_default-kind-3 : goal.returns-in_default-kind-3
returns-in_default-kind-3 c =
    none_group c.in-BeforeGroup.header c.args.kind c.in_default-kind-3.not-Blank c.in_default-kind-3.not-Open
    ∙ ap (λ (p : Place). next_line_place p c.args.kind) (sym c.in-BeforeGroup.is)

pub returns-in-BeforeSide : goal.returns-in-BeforeSide
returns-in-BeforeSide c = c.before_side.ensures ∙ ap (λ (p : Place). next_line_place p c.args.kind) (sym c.in-BeforeSide.is)

pub returns-in-BehindSide : goal.returns-in-BehindSide
returns-in-BehindSide c = c.behind_side.ensures ∙ ap (λ (p : Place). next_line_place p c.args.kind) (sym c.in-BehindSide.is)

pub returns-in-BehindGroup : goal.returns-in-BehindGroup
returns-in-BehindGroup c = c.behind_group.ensures ∙ ap (λ (p : Place). next_line_place p c.args.kind) (sym c.in-BehindGroup.is)

pub returns-in-Comment : goal.returns-in-Comment
returns-in-Comment c = ap (λ (p : Place). Some p) c.in-Comment.is ∙ ap (λ (p : Place). next_line_place p c.args.kind) (sym c.in-Comment.is)
