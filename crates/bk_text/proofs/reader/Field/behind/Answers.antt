-- Each arm of `behind` gives what the definition gives at that field and that byte.
use Rattle.std.specs.Prelude.{None, Option, refl, ℕ, ◌≡◌}
use Rattle.std.proofs.Common.{sym, ◌∙◌}
use Rattle.bk_text.specs.LineReader.{behind_number}
use Rattle.bk_text.specs.declared.reader.Bracket.{Bracket}
use Rattle.bk_text.specs.declared.reader.Field.TheVariants.{First, Height, RowSide, Second, Side, Third}
use Rattle.bk_text.specs.declared.reader.Header.{Header}
use Rattle.bk_text.specs.declared.reader.ByteKind.{ByteKind}
use Rattle.bk_text.specs.declared.reader.ByteKind.TheVariants.{Blank, Close, Comma, Cross, Open, Semicolon}
use Rattle.bk_text.specs.declared.reader.Table.{Table}
use Rattle.bk_text.proofs.reader.Field.behind.Goals as goal

-- bytes with which a line does not go on behind a number of each field
none_first : (n : ℕ) (k : ByteKind) → (k ≡ Blank → ⊥) → (k ≡ Cross → ⊥) → ((b : Bracket) → k ≡ Open b → ⊥) → None ≡ behind_number First n k
none_first n Blank blank cross opens = absurd (blank refl)
none_first n Cross blank cross opens = absurd (cross refl)
none_first n (Open b) blank cross opens = absurd (opens b refl)
none_first n k blank cross opens = refl

none_second : (order n : ℕ) (k : ByteKind) → (k ≡ Blank → ⊥) → (k ≡ Cross → ⊥) → None ≡ behind_number (Second order) n k
none_second order n Blank blank cross = absurd (blank refl)
none_second order n Cross blank cross = absurd (cross refl)
none_second order n k blank cross = refl

none_height : (order : Option ℕ) (width n : ℕ) (k : ByteKind) → (k ≡ Blank → ⊥) → ((b : Bracket) → k ≡ Open b → ⊥)
    → None ≡ behind_number (Height order width) n k
none_height order width n Blank blank opens = absurd (blank refl)
none_height order width n (Open b) blank opens = absurd (opens b refl)
none_height order width n k blank opens = refl

none_third : (order width n : ℕ) (k : ByteKind) → (k ≡ Blank → ⊥) → None ≡ behind_number (Third order width) n k
none_third order width n Blank blank = absurd (blank refl)
none_third order width n k blank = refl

none_row_side : (table : Table) (n : ℕ) (k : ByteKind) → (k ≡ Blank → ⊥) → (k ≡ Semicolon → ⊥) → None ≡ behind_number (RowSide table) n k
none_row_side table n Blank blank semicolon = absurd (blank refl)
none_row_side table n Semicolon blank semicolon = absurd (semicolon refl)
none_row_side table n k blank semicolon = refl

none_side : (header : Header) (bracket : Bracket) (n : ℕ) (k : ByteKind) → (k ≡ Blank → ⊥) → (k ≡ Comma → ⊥) → ((b : Bracket) → k ≡ Close b → ⊥)
    → None ≡ behind_number (Side header bracket) n k
none_side header bracket n Blank blank comma close = absurd (blank refl)
none_side header bracket n Comma blank comma close = absurd (comma refl)
none_side header bracket n (Close b) blank comma close = absurd (close b refl)
none_side header bracket n k blank comma close = refl

pub returns-in-First-Blank : goal.returns-in-First-Blank
returns-in-First-Blank c = sym (λ i. behind_number (c.in-First-Blank.is-0 i) c.args.value (c.in-First-Blank.is-1 i))

pub returns-in-First-Cross : goal.returns-in-First-Cross
returns-in-First-Cross c = sym (λ i. behind_number (c.in-First-Cross.is-0 i) c.args.value (c.in-First-Cross.is-1 i))

pub returns-in-First-Open : goal.returns-in-First-Open
returns-in-First-Open c = rw (c.in-First-Open.is-0, c.in-First-Open.is-1, c.order_alone.ensures) refl

pub returns-in-Second-Blank : goal.returns-in-Second-Blank
returns-in-Second-Blank c = sym (λ i. behind_number (c.in-Second-Blank.is-0 i) c.args.value (c.in-Second-Blank.is-1 i))

pub returns-in-Second-Cross : goal.returns-in-Second-Cross
returns-in-Second-Cross c = sym (λ i. behind_number (c.in-Second-Cross.is-0 i) c.args.value (c.in-Second-Cross.is-1 i))

pub returns-in-Height-Blank : goal.returns-in-Height-Blank
returns-in-Height-Blank c = sym (λ i. behind_number (c.in-Height-Blank.is-0 i) c.args.value (c.in-Height-Blank.is-1 i))

pub returns-in-Height-Open : goal.returns-in-Height-Open
returns-in-Height-Open c = sym (λ i. behind_number (c.in-Height-Open.is-0 i) c.args.value (c.in-Height-Open.is-1 i))

pub returns-in-Third-Blank : goal.returns-in-Third-Blank
returns-in-Third-Blank c = sym (λ i. behind_number (c.in-Third-Blank.is-0 i) c.args.value (c.in-Third-Blank.is-1 i))

pub returns-in-RowSide-Blank : goal.returns-in-RowSide-Blank
returns-in-RowSide-Blank c = sym (λ i. behind_number (c.in-RowSide-Blank.is-0 i) c.args.value (c.in-RowSide-Blank.is-1 i))

pub returns-in-RowSide-Semicolon : goal.returns-in-RowSide-Semicolon
returns-in-RowSide-Semicolon c = sym (λ i. behind_number (c.in-RowSide-Semicolon.is-0 i) c.args.value (c.in-RowSide-Semicolon.is-1 i))

pub returns-in-Side-Blank : goal.returns-in-Side-Blank
returns-in-Side-Blank c = sym (λ i. behind_number (c.in-Side-Blank.is-0 i) c.args.value (c.in-Side-Blank.is-1 i))

pub returns-in-Side-Comma : goal.returns-in-Side-Comma
returns-in-Side-Comma c = sym (λ i. behind_number (c.in-Side-Comma.is-0 i) c.args.value (c.in-Side-Comma.is-1 i))

pub returns-in-Side-Close : goal.returns-in-Side-Close
returns-in-Side-Close c = rw (c.in-Side-Close.is-0, c.in-Side-Close.is-1) c.close_group.ensures

pub returns-in_default : goal.returns-in_default
returns-in_default c =
    let d = c.in_default in
    (none_first c.args.value c.args.kind d.not-Blank-1 d.not-Cross-1 d.not-Open-1) ∙ sym (λ i. behind_number (d.is-0 i) c.args.value c.args.kind)

pub returns-in_default-2 : goal.returns-in_default-2
returns-in_default-2 c =
    let d = c.in_default in
    (none_second d.field-0-0 c.args.value c.args.kind d.not-Blank-1 d.not-Cross-1) ∙ sym (λ i. behind_number (d.is-0 i) c.args.value c.args.kind)

pub returns-in_default-3 : goal.returns-in_default-3
returns-in_default-3 c =
    let d = c.in_default in
    (none_height d.field-0-0 d.field-1-0 c.args.value c.args.kind d.not-Blank-1 d.not-Open-1) ∙ sym (λ i. behind_number (d.is-0 i) c.args.value c.args.kind)

pub returns-in_default-4 : goal.returns-in_default-4
returns-in_default-4 c =
    let d = c.in_default in
    (none_third d.field-0-0 d.field-1-0 c.args.value c.args.kind d.not-Blank-1) ∙ sym (λ i. behind_number (d.is-0 i) c.args.value c.args.kind)

pub returns-in_default-5 : goal.returns-in_default-5
returns-in_default-5 c =
    let d = c.in_default in
    (none_row_side d.field-0-0 c.args.value c.args.kind d.not-Blank-1 d.not-Semicolon-1) ∙ sym (λ i. behind_number (d.is-0 i) c.args.value c.args.kind)

pub returns-in_default-6 : goal.returns-in_default-6
returns-in_default-6 c =
    let d = c.in_default in
    (none_side d.field-0-0 d.field-1-0 c.args.value c.args.kind d.not-Blank-1 d.not-Comma-1 d.not-Close-1)
    ∙ sym (λ i. behind_number (d.is-0 i) c.args.value c.args.kind)
