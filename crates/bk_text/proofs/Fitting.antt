-- Which lists and numbers go with each place of the reader.
use Rattle.std.specs.Prelude.{Bool, List, None, Option, Some, [], if◌then◌else◌, length, nat_le, refl, true, ℕ, ◌*◌, ◌+◌, ◌/◌, ◌<◌, ◌≡◌, ◌≤◌}
use Rattle.std.proofs.Common.{ap, arith, false, leb-true, subst}
use Rattle.bk_laws.proofs.ListParts.{length-snoc_positive}
use Rattle.bk_code.specs.Code.{flat}
use Rattle.bk_tiling.specs.KeptTiling.{IsSide}
use Rattle.bk_text.specs.LineReader.{ended_side, field_with_digit, last_side, line_ending_at, most, next_line_place}
use Rattle.bk_text.specs.ReadLine.{sides_of_line}
use Rattle.bk_text.specs.declared.reader.Bracket.TheVariants.{Round, Square}
use Rattle.bk_text.specs.declared.reader.Ending.{Ending}
use Rattle.bk_text.specs.declared.reader.Ending.TheVariants.{Coded, Empty, Row}
use Rattle.bk_text.specs.declared.reader.Field.{Field}
use Rattle.bk_text.specs.declared.reader.Field.TheVariants.{First, Height, RowSide, Second, Side as SideOf, Third}
use Rattle.bk_text.specs.declared.reader.ByteKind.{ByteKind}
use Rattle.bk_text.specs.declared.reader.ByteKind.TheVariants.{Blank, Close, Comma, Cross, Digit, Semicolon, Zero}
use Rattle.bk_text.specs.declared.reader.Place.{Place}
use Rattle.bk_text.specs.declared.reader.Place.TheVariants.{BeforeGroup, BeforeHeight, BeforeSide, BehindFirst, BehindGroup, BehindRowSide}
use Rattle.bk_text.specs.declared.reader.Place.TheVariants.{BehindSecond, BehindSide, BehindThird, Comment as InComment, Number as InNumber, Start}
use Rattle.bk_text.proofs.ByteKinds.{HasLineKind}
use Rattle.bk_text.proofs.KeepingAll.{Lists, and_side, line_by_its_ending, lists_behind_a_byte, no_lists}
use Rattle.bk_text.proofs.FrontBytes.{most-ends_in_nine}

abbrev FitsField : Field → Lists → Type 0
FitsField First t = t ≡ no_lists
FitsField (Second order) t = t ≡ no_lists
FitsField (Height order width) t = t ≡ no_lists
FitsField (Third order width) t = t ≡ no_lists
FitsField (RowSide r) t = t.groups ≡ []
FitsField (SideOf g c) t = Unit {0}

abbrev FitsEnding : Ending → Lists → Type 0
FitsEnding Empty t = t ≡ no_lists
FitsEnding (Coded g) t = t.sides ≡ []
FitsEnding (Row r) t = t.groups ≡ []

-- before groups there are no lists, between groups no open one, and a number is one that may stand there
abbrev pub Fits : Place → Lists → Type 0
Fits Start t = t ≡ no_lists
Fits (InNumber f v) t = (0 < v) × (v ≤ most f) × FitsField f t
Fits (BehindFirst n) t = t ≡ no_lists
Fits (BehindSecond order width) t = t ≡ no_lists
Fits (BeforeHeight order width) t = t ≡ no_lists
Fits (BehindThird r) t = t ≡ no_lists
Fits (BehindRowSide r) t = t.groups ≡ []
Fits (BeforeGroup g) t = t.sides ≡ []
Fits (BeforeSide g c) t = Unit {0}
Fits (BehindSide g c) t = 0 < length t.sides
Fits (BehindGroup g) t = t.sides ≡ []
Fits (InComment ending) t = FitsEnding ending t

-- the lists go with the next place, where there is one
abbrev pub FitsNext : Option Place → Lists → Type 0
FitsNext None t = Unit {0}
FitsNext (Some q) t = Fits q t

grown : (f : Field) (v d : ℕ) (t : Lists) → d < 10 → (0 < v) × (v ≤ most f) × FitsField f t → FitsNext (field_with_digit f v d) t
grown f v d t small h = when (nat_le v (most f / 10)) (λ e. leb-true v (most f / 10) e)
  where
    tenth : (m : ℕ) → m / 10 * 10 + 9 ≤ m → v ≤ m / 10 → v * 10 + d ≤ m
    tenth m nines' below = omega arith

    when : (fits : Bool) → (fits ≡ true → v ≤ most f / 10) → FitsNext (if fits then Some (InNumber f (v * 10 + d)) else None) t
    when false below = tt
    when true below = let few = below refl in (omega (arith, h.0), tenth (most f) (most-ends_in_nine f) few, h.2)

number_fits : (f : Field) (v : ℕ) (k : ByteKind) (t : Lists) (b : ℕ) → HasLineKind k b → (0 < v) × (v ≤ most f) × FitsField f t
    → FitsNext (next_line_place (InNumber f v) k) (lists_behind_a_byte (InNumber f v) k t)
number_fits First v Zero t b m h = grown First v 0 t (omega arith) h
number_fits (Second o) v Zero t b m h = grown (Second o) v 0 t (omega arith) h
number_fits (Height o w) v Zero t b m h = grown (Height o w) v 0 t (omega arith) h
number_fits (Third o w) v Zero t b m h = grown (Third o w) v 0 t (omega arith) h
number_fits (RowSide r) v Zero t b m h = grown (RowSide r) v 0 t (omega arith) h
number_fits (SideOf g c) v Zero t b m h = grown (SideOf g c) v 0 t (omega arith) h
number_fits First v (Digit d) t b m h = grown First v d t m.1 h
number_fits (Second o) v (Digit d) t b m h = grown (Second o) v d t m.1 h
number_fits (Height o w) v (Digit d) t b m h = grown (Height o w) v d t m.1 h
number_fits (Third o w) v (Digit d) t b m h = grown (Third o w) v d t m.1 h
number_fits (RowSide r) v (Digit d) t b m h = grown (RowSide r) v d t m.1 h
number_fits (SideOf g c) v (Digit d) t b m h = grown (SideOf g c) v d t m.1 h
number_fits First v Blank t b m h = h.2
number_fits First v Cross t b m h = h.2
number_fits (Second o) v Blank t b m h = h.2
number_fits (Second o) v Cross t b m h = h.2
number_fits (Height o w) v Blank t b m h = ap (λ (u : Lists). u.sides) h.2
number_fits (Third o w) v Blank t b m h = h.2
number_fits (RowSide r) v Blank t b m h = h.2
number_fits (RowSide r) v Semicolon t b m h = h.2
number_fits (SideOf g c) v Blank t b m h = length-snoc_positive t.sides v
number_fits (SideOf g Square) v (Close Square) t b m h = refl
number_fits (SideOf g Round) v (Close Round) t b m h = refl
number_fits (SideOf g Square) v (Close Round) t b m h = tt
number_fits (SideOf g Round) v (Close Square) t b m h = tt
number_fits f v k t b m h = tt

-- lists that go with a place go with the next one behind a byte
pub fits_after : (p : Place) (k : ByteKind) (t : Lists) (b : ℕ) → HasLineKind k b → Fits p t → FitsNext (next_line_place p k) (lists_behind_a_byte p k t)
fits_after (InNumber f v) k t b m h = number_fits f v k t b m h
fits_after Start Blank t b m h = h
fits_after Start (Digit d) t b m h = (m.0, omega (arith, m.1), h)
fits_after Start Semicolon t b m h = h
fits_after (BehindFirst n) Blank t b m h = h
fits_after (BehindFirst n) (Digit d) t b m h = (m.0, omega (arith, m.1), h)
fits_after (BehindSecond o w) Blank t b m h = h
fits_after (BehindSecond o w) (Digit d) t b m h = (m.0, omega (arith, m.1), h)
fits_after (BeforeHeight o w) (Digit d) t b m h = (m.0, omega (arith, m.1), h)
fits_after (BehindThird r) Blank t b m h = h
fits_after (BehindThird r) (Digit d) t b m h = (m.0, omega (arith, m.1), ap (λ (u : Lists). u.groups) h)
fits_after (BehindRowSide r) Blank t b m h = h
fits_after (BehindRowSide r) (Digit d) t b m h = (m.0, omega (arith, m.1), h)
fits_after (BehindRowSide r) Semicolon t b m h = h
fits_after (BeforeGroup g) Blank t b m h = h
fits_after (BeforeSide g c) (Digit d) t b m h = (m.0, omega (arith, m.1), tt)
fits_after (BehindSide g c) Blank t b m h = h
fits_after (BehindSide g Square) (Close Square) t b m h = refl
fits_after (BehindSide g Round) (Close Round) t b m h = refl
fits_after (BehindSide g Square) (Close Round) t b m h = tt
fits_after (BehindSide g Round) (Close Square) t b m h = tt
fits_after (BehindGroup g) Blank t b m h = h
fits_after (BehindGroup g) Comma t b m h = h
fits_after (BehindGroup g) Semicolon t b m h = h
fits_after (InComment ending) k t b m h = h
fits_after p k t b m h = tt

-- a side that ends is one that a square may have
pub ended_is_side : (p : Place) (k : ByteKind) (t : Lists) → Fits p t → (n : ℕ) → ended_side p k ≡ Some n → IsSide n
ended_is_side (InNumber (RowSide r) v) Zero t h n e = absurd (cc)
ended_is_side (InNumber (RowSide r) v) (Digit d) t h n e = absurd (cc)
ended_is_side (InNumber (RowSide r) v) k t h n e = let same : v ≡ n = cc in subst IsSide same (h.0, h.1)
ended_is_side (InNumber (SideOf g c) v) Zero t h n e = absurd (cc)
ended_is_side (InNumber (SideOf g c) v) (Digit d) t h n e = absurd (cc)
ended_is_side (InNumber (SideOf g c) v) k t h n e = let same : v ≡ n = cc in subst IsSide same (h.0, h.1)
ended_is_side (InNumber First v) Zero t h n e = absurd (cc)
ended_is_side (InNumber First v) (Digit d) t h n e = absurd (cc)
ended_is_side (InNumber First v) k t h n e = absurd (cc)
ended_is_side (InNumber (Second o) v) Zero t h n e = absurd (cc)
ended_is_side (InNumber (Second o) v) (Digit d) t h n e = absurd (cc)
ended_is_side (InNumber (Second o) v) k t h n e = absurd (cc)
ended_is_side (InNumber (Height o w) v) Zero t h n e = absurd (cc)
ended_is_side (InNumber (Height o w) v) (Digit d) t h n e = absurd (cc)
ended_is_side (InNumber (Height o w) v) k t h n e = absurd (cc)
ended_is_side (InNumber (Third o w) v) Zero t h n e = absurd (cc)
ended_is_side (InNumber (Third o w) v) (Digit d) t h n e = absurd (cc)
ended_is_side (InNumber (Third o w) v) k t h n e = absurd (cc)
ended_is_side p k t h n e = absurd (cc)

-- a number that ends a line as a side is one that a square may have
pub last_is_side : (p : Place) (t : Lists) → Fits p t → (n : ℕ) → last_side p ≡ Some n → IsSide n
last_is_side (InNumber (RowSide r) v) t h n e = let same : v ≡ n = cc in subst IsSide same (h.0, h.1)
last_is_side p t h n e = absurd (cc)

-- how many sides were read
abbrev pub read_count : Lists → ℕ
read_count t = length (flat t.groups) + length t.sides

-- at the end of a line all sides that were read are its sides
pub sides_of_line-read_count : (p : Place) (ending : Ending) (t : Lists) → Fits p t → line_ending_at p ≡ Some ending
    → length (sides_of_line (line_by_its_ending ending (and_side (last_side p) t))) ≡ read_count (and_side (last_side p) t)
sides_of_line-read_count p ending t h e = by_ending ending (and_side (last_side p) t) (fits_ending p ending t h e)
  where
    by_ending : (e : Ending) (u : Lists) → FitsEnding e u → length (sides_of_line (line_by_its_ending e u)) ≡ read_count u
    by_ending Empty u fits = let none : read_count u ≡ 0 = ap read_count fits in omega arith
    by_ending (Coded g) u fits = let none : length u.sides ≡ 0 = ap (λ (z : List ℕ). length z) fits in omega arith
    by_ending (Row r) u fits = let none : length (flat u.groups) ≡ 0 = ap (λ z. length (flat z)) fits in omega arith

    fits_ending : (p : Place) (e : Ending) (t : Lists) → Fits p t → line_ending_at p ≡ Some e → FitsEnding e (and_side (last_side p) t)
    fits_ending Start e t h is = let same : Empty ≡ e = cc in subst (λ (z : Ending). FitsEnding z t) same h
    fits_ending (InNumber (RowSide r) v) e t h is = let same : Row r ≡ e = cc in subst (λ (z : Ending). FitsEnding z (and_side (Some v) t)) same h.2
    fits_ending (BehindRowSide r) e t h is = let same : Row r ≡ e = cc in subst (λ (z : Ending). FitsEnding z t) same h
    fits_ending (BehindGroup g) e t h is = let same : Coded g ≡ e = cc in subst (λ (z : Ending). FitsEnding z t) same h
    fits_ending (InComment ending') e t h is = let same : ending' ≡ e = cc in subst (λ (z : Ending). FitsEnding z t) same h
    fits_ending p e t h is = absurd (cc)
