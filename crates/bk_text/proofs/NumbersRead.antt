-- Numbers, blanks and the end of a line are read as what they stand for.
use Rattle.std.specs.Char.{digit_value}
use Rattle.std.specs.Prelude.{Bool, List, Some, [], length, nat_le, option_and_then, refl, true, ℕ, ◌&&◌, ◌*◌, ◌++◌, ◌+◌, ◌-◌, ◌/◌, ◌<◌, ◌==◌, ◌^◌, ◌∷◌, ◌≡◌}
use Rattle.std.specs.Prelude.{◌≢◌, ◌≤◌, ◌⊎◌}
use Rattle.std.specs.Str.Parse.{AllDigits, digits_value_after}
use Rattle.std.proofs.Common.{ap, arith, false, inl, inr, subst, sym, ◌∙◌}
use Rattle.std.proofs.lemmas.Bool.{and_from, cond-false, cond-true, le-leb}
use Rattle.std.proofs.lemmas.Bool.Decides.{nat_tests}
use Rattle.std.proofs.lemmas.Int.Digits.{digits_value-lt}
use Rattle.std.proofs.lemmas.Str.{digit_value_digit}
use Rattle.std.proofs.lemmas.Str.Parse.{digit_from_value}
use Rattle.bk_laws.proofs.Digits.{digits_value_after-le}
use Rattle.bk_laws.proofs.Multiples.{lt_pow_ten-le_greatest}
use Rattle.bk_grammar.proofs.Reading.{Reads}
use Rattle.bk_grammar.specs.Grammar.{Blanks, Comment, IsBlank, LineEnd, Nothing, Number, SomeBlanks, ◌or◌}
use Rattle.bk_text.specs.LineReader.{field_with_digit, line_kind_of, most, next_line_place}
use Rattle.bk_text.specs.declared.reader.Ending.{Ending}
use Rattle.bk_text.specs.declared.reader.Field.{Field}
use Rattle.bk_text.specs.declared.reader.Field.TheVariants.{First, Height, RowSide, Second, Side as SideOf, Third}
use Rattle.bk_text.specs.declared.reader.ByteKind.{ByteKind}
use Rattle.bk_text.specs.declared.reader.ByteKind.TheVariants.{Blank, Digit, Semicolon, Zero}
use Rattle.bk_text.specs.declared.reader.Place.{Place}
use Rattle.bk_text.specs.declared.reader.Place.TheVariants.{Comment as InComment, Number as InNumber}
use Rattle.bk_text.proofs.KeepingAll.{Lists, line_by_its_ending, line_read_from, lists_behind_a_byte}

-- a further byte of a known kind
pub line_read_of_a_further_byte : (p q : Place) (k : ByteKind) (t u : Lists) (b : ℕ) (bs : List ℕ) → line_kind_of b ≡ k → next_line_place p k ≡ Some q
    → lists_behind_a_byte p k t ≡ u
    → line_read_from (b ∷ bs) p t ≡ line_read_from bs q u
line_read_of_a_further_byte p q k t u b bs kind next lists =
    ap (λ k. option_and_then (λ q. line_read_from bs q (lists_behind_a_byte p k t)) (next_line_place p k)) kind
    ∙ ap (option_and_then (λ q. line_read_from bs q (lists_behind_a_byte p k t))) next
    ∙ ap (line_read_from bs q) lists

kind_blank : (b : ℕ) → IsBlank b → line_kind_of b ≡ Blank
kind_blank b (inl e) = ap line_kind_of e
kind_blank b (inr (inl e)) = ap line_kind_of e
kind_blank b (inr (inr e)) = ap line_kind_of e

kind_digit : (b : ℕ) → digit_value b < 10 → b ≢ 48 → line_kind_of b ≡ Digit (digit_value b)
kind_digit b small other =
    let range = digit_from_value b small in
    let value = digit_value_digit b range in
    let not_zero : (b == 48) ≡ false = grind (arith, nat_tests, other) in
    let low : 49 ≤ b = omega (arith, range, other) in
    let is_digit : (nat_le 49 b && nat_le b 57) ≡ true = and_from _ _ (le-leb 49 b low) (le-leb b 57 (omega (arith, range))) in
    let own : b - 48 ≡ digit_value b = omega (arith, value) in
    cond-false _ _ _ not_zero ∙ cond-true _ _ _ is_digit ∙ ap Digit own

-- digits of a number
zero_keeps : (f : Field) (v : ℕ) (t : Lists) → lists_behind_a_byte (InNumber f v) Zero t ≡ t
zero_keeps First v t = refl
zero_keeps (Second o) v t = refl
zero_keeps (Height o w) v t = refl
zero_keeps (Third o w) v t = refl
zero_keeps (RowSide r) v t = refl
zero_keeps (SideOf g c) v t = refl

digit_keeps : (f : Field) (v d : ℕ) (t : Lists) → lists_behind_a_byte (InNumber f v) (Digit d) t ≡ t
digit_keeps First v d t = refl
digit_keeps (Second o) v d t = refl
digit_keeps (Height o w) v d t = refl
digit_keeps (Third o w) v d t = refl
digit_keeps (RowSide r) v d t = refl
digit_keeps (SideOf g c) v d t = refl

longer_fits : (f : Field) (v d : ℕ) → v * 10 + d ≤ most f → field_with_digit f v d ≡ Some (InNumber f (v * 10 + d))
longer_fits f v d few = cond-true _ _ _ (le-leb v (most f / 10) (tenth (most f) few))
  where
    tenth : (m : ℕ) → v * 10 + d ≤ m → v ≤ m / 10
    tenth m few' = omega arith

more_digit : (f : Field) (v b : ℕ) (t : Lists) (bs : List ℕ) → digit_value b < 10 → v * 10 + digit_value b ≤ most f
    → line_read_from (b ∷ bs) (InNumber f v) t ≡ line_read_from bs (InNumber f (v * 10 + digit_value b)) t
more_digit f v b t bs small few = which (cases (b == 48) refl)
  where
    cases : (test : Bool) → (b == 48) ≡ test → (b ≡ 48) ⊎ (b ≢ 48)
    cases true e = inl (grind (arith, nat_tests, e))
    cases false e = inr (grind (arith, nat_tests, e))

    which : (b ≡ 48) ⊎ (b ≢ 48) → line_read_from (b ∷ bs) (InNumber f v) t ≡ line_read_from bs (InNumber f (v * 10 + digit_value b)) t
    which (inl e) =
        let value : digit_value b ≡ 0 = ap digit_value e in
        line_read_of_a_further_byte (InNumber f v) (InNumber f (v * 10 + 0)) Zero t t b bs (ap line_kind_of e) (longer_fits f v 0 (omega (arith, few)))
        (zero_keeps f v t)
        ∙ ap (λ z. line_read_from bs (InNumber f (v * 10 + z)) t) (sym value)
    which (inr e) = line_read_of_a_further_byte (InNumber f v) (InNumber f (v * 10 + digit_value b)) (Digit (digit_value b)) t t b bs (kind_digit b small e)
        (longer_fits f v (digit_value b) few) (digit_keeps f v (digit_value b) t)

more_digits : (f : Field) (v : ℕ) (ds : List ℕ) (t : Lists) (x : List ℕ) → AllDigits 10 ds → digits_value_after 10 v ds ≤ most f
    → line_read_from (ds ++ x) (InNumber f v) t ≡ line_read_from x (InNumber f (digits_value_after 10 v ds)) t
more_digits f v [] t x digits few = refl
more_digits f v (d ∷ ds) t x digits few =
    more_digit f v d t (ds ++ x) digits.0 (omega (arith, few, digits_value_after-le (v * 10 + digit_value d) ds))
    ∙ more_digits f (v * 10 + digit_value d) ds t x digits.1 few

-- a place at which a number may begin
abbrev pub Begins_number : Place → Field → Lists → Type 0
Begins_number p f t = (d : ℕ) → (next_line_place p (Digit d) ≡ Some (InNumber f d)) × (lists_behind_a_byte p (Digit d) t ≡ t)

-- the text of a number leads to the place in that number
pub number_reads : (most' n : ℕ) (p : Place) (f : Field) (t : Lists) (text x : List ℕ) → 10 ^ most' ≤ most f + 1 → Begins_number p f t
    → Reads (Number most' n) text x → line_read_from text p t ≡ line_read_from x (InNumber f n) t
number_reads most' n p f t text x bound begins ([], h, e) = absurd (omega (arith, h.0.0))
number_reads most' n p f t text x bound begins (b ∷ ds, (digits, few, first, value), e) =
    let other : b ≢ 48 = first in
    let k = begins (digit_value b) in
    let start : digits_value_after 10 (digit_value b) ds ≡ n =
    ap (λ z. digits_value_after 10 z ds) (let z : digit_value b ≡ 0 * 10 + digit_value b = omega arith in z) ∙ value in
    let below : n ≤ most f =
    lt_pow_ten-le_greatest (most f) most' (length (b ∷ ds)) n bound few
    (subst (λ (z : ℕ). z < 10 ^ length (b ∷ ds)) value (digits_value-lt 10 (b ∷ ds) digits.1)) in
    ap (λ z. line_read_from z p t) e
    ∙ line_read_of_a_further_byte p (InNumber f (digit_value b)) (Digit (digit_value b)) t t b (ds ++ x) (kind_digit b digits.1.0 other) k.0 k.1
    ∙ more_digits f (digit_value b) ds t x digits.1.1 (omega (arith, start, below))
    ∙ ap (λ z. line_read_from x (InNumber f z) t) start

-- blanks
blank_read : (p q : Place) (t u : Lists) (b : ℕ) (bs : List ℕ) → IsBlank b → next_line_place p Blank ≡ Some q → lists_behind_a_byte p Blank t ≡ u
    → line_read_from (b ∷ bs) p t ≡ line_read_from bs q u
blank_read p q t u b bs blank next lists = line_read_of_a_further_byte p q Blank t u b bs (kind_blank b blank) next lists

-- a place at which blanks change nothing
abbrev pub Skips_blanks : Place → Lists → Type 0
Skips_blanks p t = (next_line_place p Blank ≡ Some p) × (lists_behind_a_byte p Blank t ≡ t)

skipped : (p : Place) (t : Lists) (a x : List ℕ) → Skips_blanks p t → Blanks a → line_read_from (a ++ x) p t ≡ line_read_from x p t
skipped p t [] x skips blanks = refl
skipped p t (b ∷ a) x skips blanks = blank_read p p t t b (a ++ x) blanks.0 skips.0 skips.1 ∙ skipped p t a x skips blanks.1

-- blanks lead to the same place, where blanks change nothing
pub blanks_reads : (p : Place) (t : Lists) (text x : List ℕ) → Skips_blanks p t → Reads Blanks text x → line_read_from text p t ≡ line_read_from x p t
blanks_reads p t text x skips (a, blanks, e) = ap (λ z. line_read_from z p t) e ∙ skipped p t a x skips blanks

-- blanks behind a number: the number ends
abbrev pub Ends_at : Place → Place → Lists → Lists → Type 0
Ends_at p q t u = (next_line_place p Blank ≡ Some q) × (lists_behind_a_byte p Blank t ≡ u)

-- some blanks behind a number lead to the place behind it
pub gap_reads : (p q : Place) (t u : Lists) (text x : List ℕ) → Ends_at p q t u → Skips_blanks q u → Reads SomeBlanks text x
    → line_read_from text p t ≡ line_read_from x q u
gap_reads p q t u text x ends skips ([], h, e) = absurd (omega (arith, h.0))
gap_reads p q t u text x ends skips (b ∷ a, h, e) =
    ap (λ z. line_read_from z p t) e ∙ blank_read p q t u b (a ++ x) h.1.0 ends.0 ends.1 ∙ skipped q u a x skips h.1.1

-- blanks behind a number, also none, lead to the place behind it, where what follows is read alike from both places
pub behind_reads : (p q : Place) (t u : Lists) (text x : List ℕ) → Ends_at p q t u → Skips_blanks q u
    → line_read_from x p t ≡ line_read_from x q u → Reads Blanks text x → line_read_from text p t ≡ line_read_from x q u
behind_reads p q t u text x ends skips same ([], h, e) = ap (λ z. line_read_from z p t) e ∙ same
behind_reads p q t u text x ends skips same (b ∷ a, h, e) = gap_reads p q t u text x ends skips (b ∷ a, (omega arith, h), e)

-- the end of a line
comment_read : (text : List ℕ) (ending : Ending) (t : Lists) → line_read_from text (InComment ending) t ≡ Some (line_by_its_ending ending t)
comment_read [] ending t = refl
comment_read (b ∷ bs) ending t = comment_read bs ending t

-- a place at which the line may end
pub record Ends_line (p : Place) (ending : Ending) (t u : Lists) : Type 0 where
  pub here : line_read_from [] p t ≡ Some (line_by_its_ending ending u)
  pub next : next_line_place p Semicolon ≡ Some (InComment ending)
  pub lists : lists_behind_a_byte p Semicolon t ≡ u

-- where the line may end, it ends also in front of a comment
pub ends_here : (p : Place) (ending : Ending) (t u : Lists) (x : List ℕ) → Ends_line p ending t u → (Nothing or Comment) x
    → line_read_from x p t ≡ Some (line_by_its_ending ending u)
ends_here p ending t u x ends (inl none) = ap (λ z. line_read_from z p t) none ∙ ends.here
ends_here p ending t u x ends (inr (text, e)) = ap (λ z. line_read_from z p t) e
    ∙ line_read_of_a_further_byte p (InComment ending) Semicolon t u 59 text refl ends.next ends.lists ∙ comment_read text ending u

-- the end of a line, with blanks or a comment before it, is read as the end
pub end_read : (p : Place) (ending : Ending) (t : Lists) (text : List ℕ) → Skips_blanks p t → Ends_line p ending t t → LineEnd text
    → line_read_from text p t ≡ Some (line_by_its_ending ending t)
end_read p ending t text skips ends (a, x, e, blanks, rest) = blanks_reads p t text x skips (a, blanks, e) ∙ ends_here p ending t t x ends rest
