-- Each line is read as what it stands for.
use Rattle.std.specs.Prelude.{List, None, Option, Some, [], codes, refl, ℕ, ◌++◌, ◌+◌, ◌^◌, ◌∷◌, ◌≡◌, ◌≤◌}
use Rattle.std.proofs.Common.{ap, append_assoc, arith, sym, ◌∙◌}
use Rattle.bk_grammar.proofs.Reading.{Reads, byte_is, reads_parts}
use Rattle.bk_grammar.specs.Grammar.{Blanks, Is, LineEnd, Number, SomeBlanks, ◌then◌}
use Rattle.bk_text.specs.CodeLine.{Flat, IsLine, Item, Line, Side, Size, Skip, TableSides}
use Rattle.bk_text.specs.LineReader.{most, next_line_place}
use Rattle.bk_text.specs.declared.reader.Ending.TheVariants.{Empty, Row}
use Rattle.bk_text.specs.declared.reader.Field.{Field}
use Rattle.bk_text.specs.declared.reader.Field.TheVariants.{First, Height, RowSide, Second, Third}
use Rattle.bk_text.specs.declared.reader.ByteKind.TheVariants.{Cross}
use Rattle.bk_text.specs.declared.reader.Place.{Place}
use Rattle.bk_text.specs.declared.reader.Place.TheVariants.{BeforeGroup, BeforeHeight, BehindFirst, BehindRowSide, BehindSecond, BehindThird}
use Rattle.bk_text.specs.declared.reader.Place.TheVariants.{Number as InNumber, Start}
use Rattle.bk_text.specs.declared.reader.Table.{Table}
use Rattle.bk_text.proofs.KeepingAll.{Lists, and_side, line_read_from, lists_behind_a_byte, no_lists}
use Rattle.bk_text.proofs.Rests.{row}
use Rattle.bk_text.proofs.NumbersRead.{Begins_number, Ends_at, Skips_blanks, behind_reads, blanks_reads, end_read, ends_here, gap_reads}
use Rattle.bk_text.proofs.NumbersRead.{line_read_of_a_further_byte, number_reads}
use Rattle.bk_text.proofs.GroupsRead.{code_behind, code_read}

-- a size
size_reads : (p : Place) (f : Field) (order : Option ℕ) (w h : ℕ) (text x : List ℕ) → 10 ^ 18 ≤ most f + 1 → Begins_number p f no_lists
    → next_line_place (InNumber f w) Cross ≡ Some (BeforeHeight order w) → lists_behind_a_byte (InNumber f w) Cross no_lists ≡ no_lists
    → Reads (Size (w, h)) text x → line_read_from text p no_lists ≡ line_read_from x (InNumber (Height order w) h) no_lists
size_reads p f order w h text x bound begins next lists r =
    let a = reads_parts (Number 18 w) (Is (codes "x") then Number 18 h) text x r in
    let b = reads_parts (Is (codes "x")) (Number 18 h) a.0 x a.2 in
    number_reads 18 w p f no_lists text a.0 bound begins a.1
    ∙ ap (λ z. line_read_from z (InNumber f w) no_lists) (byte_is 120 a.0 b.0 b.1)
    ∙ line_read_of_a_further_byte (InNumber f w) (BeforeHeight order w) Cross no_lists no_lists 120 b.0 refl next lists
    ∙ number_reads 18 h (BeforeHeight order w) (Height order w) no_lists b.0 x (omega arith) (λ d. (refl, refl)) b.2

-- a table row
row_side_end : (r : Table) (n : ℕ) (t : Lists) (text : List ℕ) → LineEnd text
    → line_read_from text (InNumber (RowSide r) n) t ≡ Some (row r (t.sides ++ n ∷ []))
row_side_end r n t text (a, x, e, blanks, rest) =
    let behind = ends_here (BehindRowSide r) (Row r) (and_side (Some n) t) (and_side (Some n) t) x (record { here = refl; next = refl; lists = refl }) rest in
    let right_behind = ends_here (InNumber (RowSide r) n) (Row r) t (and_side (Some n) t) x (record { here = refl; next = refl; lists = refl }) rest in
    behind_reads (InNumber (RowSide r) n) (BehindRowSide r) t (and_side (Some n) t) text x (refl, refl) (refl, refl) (right_behind ∙ sym behind)
    (a, blanks, e) ∙ behind

row_sides_read : (p q : Place) (r : Table) (ns : List ℕ) (t u : Lists) (text y : List ℕ) → Ends_at p q t u → Skips_blanks q u → Begins_number q (RowSide r) u
    → Reads (TableSides ns) text y → LineEnd y → line_read_from text p t ≡ Some (row r (u.sides ++ ns))
row_sides_read p q r [] t u text y ends skips begins h end = absurd h.1
row_sides_read p q r (n ∷ []) t u text y ends skips begins h end =
    let a = reads_parts SomeBlanks (Side n) text y h in
    gap_reads p q t u text a.0 ends skips a.1 ∙ number_reads 15 n q (RowSide r) u a.0 y (omega arith) begins a.2 ∙ row_side_end r n u y end
row_sides_read p q r (n ∷ m ∷ ns) t u text y ends skips begins h end =
    let a = reads_parts SomeBlanks (Side n then TableSides (m ∷ ns)) text y h in
    let b = reads_parts (Side n) (TableSides (m ∷ ns)) a.0 y a.2 in
    gap_reads p q t u text a.0 ends skips a.1
    ∙ number_reads 15 n q (RowSide r) u a.0 b.0 (omega arith) begins b.1
    ∙ row_sides_read (InNumber (RowSide r) n) (BehindRowSide r) r (m ∷ ns) u (and_side (Some n) u) b.0 y (refl, refl) (refl, refl) (λ d. (refl, refl)) b.2 end
    ∙ ap (λ z. Some (row r z)) (append_assoc u.sides (n ∷ []) (m ∷ ns))

-- each line is read as what it stands for
pub line_is_read : (l : Line) (bs : List ℕ) → IsLine l bs → line_read_from bs Start no_lists ≡ Some l
line_is_read Skip bs h = end_read Start Empty no_lists bs (refl, refl) (record { here = refl; next = refl; lists = refl }) h
line_is_read (Item None None code) bs (a, x, e, blanks, (f, y, e', none, rest)) =
    blanks_reads Start no_lists bs x (refl, refl) (a, blanks, e)
    ∙ ap (λ z. line_read_from z Start no_lists) (e' ∙ ap (λ z. z ++ y) none)
    ∙ code_read Start (record { order = None; size = None }) code y (λ c. (refl, refl)) rest
line_is_read (Item (Some n) None code) bs (a, x, e, blanks, (f, y, e', header, rest)) =
    let b = reads_parts (Number 18 n) Blanks x y (f, header, e') in
    let k = b.2 in
    blanks_reads Start no_lists bs x (refl, refl) (a, blanks, e)
    ∙ number_reads 18 n Start First no_lists x b.0 (omega arith) (λ d. (refl, refl)) b.1
    ∙ code_behind (InNumber First n) (BehindFirst n) (record { order = Some n; size = None }) code b.0 (refl, refl) (refl, refl) (λ c. (refl, refl))
    (λ c. refl) (λ c. refl)
    (k.0, y, k.2, k.1, rest)
line_is_read (Item None (Some (w, h)) code) bs (a, x, e, blanks, (f, y, e', header, rest)) =
    let b = reads_parts (Size (w, h)) Blanks x y (f, header, e') in
    let k = b.2 in
    blanks_reads Start no_lists bs x (refl, refl) (a, blanks, e)
    ∙ size_reads Start First None w h x b.0 (omega arith) (λ d. (refl, refl)) refl refl b.1
    ∙ code_behind (InNumber (Height None w) h) (BeforeGroup (record { order = None; size = Some (w, h) }))
    (record { order = None; size = Some (w, h) }) code b.0
    (refl, refl) (refl, refl) (λ c. (refl, refl)) (λ c. refl) (λ c. refl) (k.0, y, k.2, k.1, rest)
line_is_read (Item (Some n) (Some (w, h)) code) bs (a, x, e, blanks, (f, y, e', header, rest)) =
    let b = reads_parts (Number 18 n) (SomeBlanks then Size (w, h) then Blanks) x y (f, header, e') in
    let d = reads_parts SomeBlanks (Size (w, h) then Blanks) b.0 y b.2 in
    let s = reads_parts (Size (w, h)) Blanks d.0 y d.2 in
    let k = s.2 in
    blanks_reads Start no_lists bs x (refl, refl) (a, blanks, e)
    ∙ number_reads 18 n Start First no_lists x b.0 (omega arith) (λ d. (refl, refl)) b.1
    ∙ gap_reads (InNumber First n) (BehindFirst n) no_lists no_lists b.0 d.0 (refl, refl) (refl, refl) d.1
    ∙ size_reads (BehindFirst n) (Second n) (Some n) w h d.0 s.0 (omega arith) (λ d. (refl, refl)) refl refl s.1
    ∙ code_behind (InNumber (Height (Some n) w) h) (BeforeGroup (record { order = Some n; size = Some (w, h) }))
    (record { order = Some n; size = Some (w, h) }) code s.0
    (refl, refl) (refl, refl) (λ c. (refl, refl)) (λ c. refl) (λ c. refl) (k.0, y, k.2, k.1, rest)
line_is_read (Flat n w h ns) bs
    (a, x, e, blanks, (f, x1, e1, num, (g, x2, e2, gap, (f', x3, e3, num', (g', x4, e4, gap', (f'', x5, e5, num'', (s, x6, e6, sides, end))))))) =
    blanks_reads Start no_lists bs x (refl, refl) (a, blanks, e)
    ∙ number_reads 18 n Start First no_lists x x1 (omega arith) (λ d. (refl, refl)) (f, num, e1)
    ∙ gap_reads (InNumber First n) (BehindFirst n) no_lists no_lists x1 x2 (refl, refl) (refl, refl) (g, gap, e2)
    ∙ number_reads 18 w (BehindFirst n) (Second n) no_lists x2 x3 (omega arith) (λ d. (refl, refl)) (f', num', e3)
    ∙ gap_reads (InNumber (Second n) w) (BehindSecond n w) no_lists no_lists x3 x4 (refl, refl) (refl, refl) (g', gap', e4)
    ∙ number_reads 18 h (BehindSecond n w) (Third n w) no_lists x4 x5 (omega arith) (λ d. (refl, refl)) (f'', num'', e5)
    ∙ row_sides_read (InNumber (Third n w) h) (BehindThird (record { order = n; width = w; height = h })) (record { order = n; width = w; height = h })
    ns no_lists no_lists x5 x6
    (refl, refl) (refl, refl) (λ d. (refl, refl)) (s, sides, e6) end

-- a line stands for one thing only
pub line_stands_for_one_thing : (bytes : List ℕ) (l m : Line) → IsLine l bytes → IsLine m bytes → l ≡ m
line_stands_for_one_thing bytes l m one two = let same : Some l ≡ Some m = sym (line_is_read l bytes one) ∙ line_is_read m bytes two in cc
