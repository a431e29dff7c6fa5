-- Numbers in front of bytes: digit after digit, and the byte that ends a number of the header.
use Rattle.std.specs.Prelude.{List, None, Option, Some, [], if◌then◌else◌, length, nat_le, option_and_then, refl, suc, take, true, zero, ℕ}
use Rattle.std.specs.Prelude.{◌*◌, ◌+◌, ◌-◌, ◌/◌, ◌<◌, ◌∷◌, ◌≡◌, ◌≤◌, ◌⊎◌}
use Rattle.std.proofs.Common.{ap, arith, get_or, inl, inr, sym, ◌∙◌}
use Rattle.std.proofs.lemmas.Bool.{cases_eq}
use Rattle.std.proofs.lemmas.Bool.Decides.{nat_tests}
use Rattle.std.proofs.lemmas.List.{take_more}
use Rattle.bk_text.specs.GatheredSides.{Gathered, gathered_after}
use Rattle.bk_text.specs.Onward.{BeginsFieldNumber, SpellOn, onward}
use Rattle.bk_text.specs.LineReader.{behind_number, field_with_digit, line_kind_of, most, next_line_place}
use Rattle.bk_text.specs.declared.reader.Bracket.{Bracket}
use Rattle.bk_text.specs.declared.reader.Field.{Field}
use Rattle.bk_text.specs.declared.reader.Field.TheVariants.{First, Height, RowSide, Second, Side, Third}
use Rattle.bk_text.specs.declared.reader.Header.{Header}
use Rattle.bk_text.specs.declared.reader.ByteKind.{ByteKind}
use Rattle.bk_text.specs.declared.reader.ByteKind.TheVariants.{Blank, Cross, Digit, Open, Zero}
use Rattle.bk_text.specs.declared.reader.Place.{Place}
use Rattle.bk_text.specs.declared.reader.Place.TheVariants.{BeforeHeight, BeforeSide, BehindFirst, Number, Start}
use Rattle.bk_text.proofs.Strides.{onward-append}

-- what one byte of a kind makes of a place
abbrev pub step : Place → Gathered → ByteKind → Option (Place × Gathered)
step p g k = option_and_then (λ q. Some (q, gathered_after p k g)) (next_line_place p k)

-- where numbers begin
pub order_begins : BeginsFieldNumber Start First
order_begins = record { next = λ d. refl; keeps = λ d g. refl }

-- behind the first number of a header a second one begins with its first digit
pub width_begins : (order : ℕ) → BeginsFieldNumber (BehindFirst order) (Second order)
width_begins order = record { next = λ d. refl; keeps = λ d g. refl }

-- behind the cross of a size the height begins with its first digit
pub height_begins : (order : Option ℕ) (width : ℕ) → BeginsFieldNumber (BeforeHeight order width) (Height order width)
height_begins order width = record { next = λ d. refl; keeps = λ d g. refl }

-- behind a bracket or a comma a side begins with its first digit
pub side_begins : (header : Header) (bracket : Bracket) → BeginsFieldNumber (BeforeSide header bracket) (Side header bracket)
side_begins header bracket = record { next = λ d. refl; keeps = λ d g. refl }

digit_kind : (b : ℕ) → 49 ≤ b → b ≤ 57 → line_kind_of b ≡ Digit (b - 48)
digit_kind b low high = grind (arith, nat_tests)

-- a digit gathers nothing
keeps_zero : (field : Field) (v : ℕ) (g : Gathered) → gathered_after (Number field v) Zero g ≡ g
keeps_zero First v g = refl
keeps_zero (Second o) v g = refl
keeps_zero (Height o w) v g = refl
keeps_zero (Third o w) v g = refl
keeps_zero (RowSide r) v g = refl
keeps_zero (Side h bracket) v g = refl

keeps_digit : (field : Field) (v d : ℕ) (g : Gathered) → gathered_after (Number field v) (Digit d) g ≡ g
keeps_digit First v d g = refl
keeps_digit (Second o) v d g = refl
keeps_digit (Height o w) v d g = refl
keeps_digit (Third o w) v d g = refl
keeps_digit (RowSide r) v d g = refl
keeps_digit (Side h bracket) v d g = refl

-- a number goes on with a digit where it stays small enough
longer_to : (field : Field) (v d n greatest : ℕ) → greatest ≡ most field → v * 10 + d ≡ n → n ≤ greatest → field_with_digit field v d ≡ Some (Number field n)
longer_to field v d n greatest same is small =
    ap (λ t. if t then Some (Number field (v * 10 + d)) else None) (below v d (most field) (omega (arith, same, is, small)))
    ∙ ap (λ z. Some (Number field z)) is
  where
    below : (v d m : ℕ) → v * 10 + d ≤ m → nat_le v (m / 10) ≡ true
    below v d m h = grind (arith, nat_tests)

-- one digit spells a number on
pub one_digit : (greatest byte number further : ℕ) → 48 ≤ byte → byte ≤ 57 → further ≡ number * 10 + (byte - 48) → 0 < further → further ≤ greatest
    → SpellOn greatest (byte ∷ []) number further
one_digit greatest byte number zero low high is some small = absurd (omega (arith, some))
one_digit greatest byte zero (suc m) low high is some small = record {
  small = small;
  leads = λ place field begins same g.
      let value : byte - 48 ≡ suc m = omega (arith, is, low) in
      ap (step place g) (digit_kind byte (omega (arith, is)) high)
      ∙ ap (option_and_then (λ q. Some (q, gathered_after place (Digit (byte - 48)) g))) (begins.next (byte - 48))
      ∙ ap (λ h. Some (Number field (byte - 48), h)) (begins.keeps (byte - 48) g)
      ∙ ap (λ z. Some (Number field z, g)) value;
}
one_digit greatest byte (suc n) (suc m) low high is some small = record {
  small = small;
  leads = λ place field begins same g. by_kind field g same (cases_eq byte 48);
}
  where
    by_kind : (field : Field) (g : Gathered) → greatest ≡ most field → (byte ≡ 48) ⊎ (byte ≡ 48 → ⊥)
        → onward (byte ∷ []) (Number field (suc n)) g ≡ Some (Number field (suc m), g)
    by_kind field g same (inl e) =
        ap (step (Number field (suc n)) g) (ap line_kind_of e)
        ∙ ap (option_and_then (λ q. Some (q, gathered_after (Number field (suc n)) Zero g)))
        (longer_to field (suc n) 0 (suc m) greatest same (omega (arith, is, e)) small)
        ∙ ap (λ h. Some (Number field (suc m), h)) (keeps_zero field (suc n) g)
    by_kind field g same (inr e) =
        let above : 49 ≤ byte = omega (arith, low, e) in
        ap (step (Number field (suc n)) g) (digit_kind byte above high)
        ∙ ap (option_and_then (λ q. Some (q, gathered_after (Number field (suc n)) (Digit (byte - 48)) g)))
        (longer_to field (suc n) (byte - 48) (suc m) greatest same (omega (arith, is)) small)
        ∙ ap (λ h. Some (Number field (suc m), h)) (keeps_digit field (suc n) (byte - 48) g)

-- a byte that ends a number of the header gathers nothing
behind_header : (field : Field) (n : ℕ) (k : ByteKind) (q : Place) → most field ≡ 999_999_999_999_999_999 → behind_number field n k ≡ Some q → (g : Gathered)
    → step (Number field n) g k ≡ Some (q, g)
behind_header First n Blank q m e g = ap (option_and_then (λ p. Some (p, g))) e
behind_header First n Cross q m e g = ap (option_and_then (λ p. Some (p, g))) e
behind_header First n (Open bracket) q m e g = ap (option_and_then (λ p. Some (p, g))) e
behind_header (Second o) n Blank q m e g = ap (option_and_then (λ p. Some (p, g))) e
behind_header (Second o) n Cross q m e g = ap (option_and_then (λ p. Some (p, g))) e
behind_header (Height o w) n Blank q m e g = ap (option_and_then (λ p. Some (p, g))) e
behind_header (Height o w) n (Open bracket) q m e g = ap (option_and_then (λ p. Some (p, g))) e
behind_header (Third o w) n Blank q m e g = ap (option_and_then (λ p. Some (p, g))) e
behind_header (RowSide r) n k q m e g = absurd (omega (arith, m))
behind_header (Side h bracket) n k q m e g = absurd (omega (arith, m))
behind_header field n k q m e g = absurd (cc)

-- a number of the header, and the byte that ends it
pub number_taken : (place : Place) (field : Field) (bytes : List ℕ) (number digits : ℕ) (kind : ByteKind) (next : Place)
    → BeginsFieldNumber place field → most field ≡ 999_999_999_999_999_999 → SpellOn 999_999_999_999_999_999 (take digits bytes) 0 number → 0 < number
    → digits < length bytes → line_kind_of (get_or bytes digits 0) ≡ kind → behind_number field number kind ≡ Some next
    → (g : Gathered) → onward (take (digits + 1) bytes) place g ≡ Some (next, g)
number_taken place field bytes zero digits kind next begins header spelled some within is leads g = absurd (omega (arith, some))
number_taken place field bytes (suc n) digits kind next begins header spelled some within is leads g =
    ap (λ z. onward z place g) (take_more bytes digits 0 within)
    ∙ onward-append (take digits bytes) (get_or bytes digits 0 ∷ []) place (Number field (suc n)) g g (spelled.leads place field begins (sym header) g)
    ∙ ap (step (Number field (suc n)) g) is ∙ behind_header field (suc n) kind next header leads g
