-- Where the reader of a line stops, and that it stops right there.
use Rattle.std.specs.Prelude.{List, None, Option, Some, [], codes, length, option_and_then, refl, take, ℕ, ◌++◌, ◌<◌, ◌∷◌, ◌≡◌}
use Rattle.std.proofs.Common.{ap, append_assoc, get_or, sym, ◌∙◌}
use Rattle.std.proofs.lemmas.List.{append-nil}
use Rattle.bk_grammar.proofs.Leaving.{leaves_at_end, leaves_before}
use Rattle.bk_grammar.specs.Longest.{Begins}
use Rattle.bk_text.specs.CodeLine.{IsNoLine, Line, SomeLine}
use Rattle.bk_text.specs.LineReader.{last_side, line_ending_at, line_kind_of, next_line_place}
use Rattle.bk_text.specs.declared.reader.Bracket.TheVariants.{Round, Square}
use Rattle.bk_text.specs.declared.reader.Field.TheVariants.{First, Height, RowSide, Second, Side as SideOf, Third}
use Rattle.bk_text.specs.declared.reader.Place.{Place}
use Rattle.bk_text.specs.declared.reader.Place.TheVariants.{BeforeGroup, BeforeHeight, BeforeSide, BehindFirst, BehindGroup, BehindRowSide}
use Rattle.bk_text.specs.declared.reader.Place.TheVariants.{BehindSecond, BehindSide, BehindThird, Comment as InComment, Number as InNumber, Start}
use Rattle.bk_text.proofs.KeepingAll.{Lists, and_side, line_read_from, line_where_one_may_end, lists_behind_a_byte, no_lists}
use Rattle.bk_text.proofs.LinesRead.{line_is_read}
use Rattle.bk_text.proofs.NumbersRead.{line_read_of_a_further_byte}
use Rattle.bk_text.proofs.WhatWasRead.{read_is_line}

abbrev Found : Option Line → Type 0
Found None = ⊥
Found (Some l) = Unit {0}

found : (o : Option Line) → Found o → (l : Line) × (o ≡ Some l)
found None h = absurd h
found (Some l) h = (l, refl)

-- from each place some bytes complete a line
completion : (p : Place) (t : Lists) → (text : List ℕ) × Found (line_read_from text p t)
completion Start t = ([], tt)
completion (InNumber First v) t = (codes "[1]", tt)
completion (InNumber (Second order) v) t = (codes "x1[1]", tt)
completion (InNumber (Height order width) v) t = (codes "[1]", tt)
completion (InNumber (Third order width) v) t = (codes " 1", tt)
completion (InNumber (RowSide r) v) t = ([], tt)
completion (InNumber (SideOf g Square) v) t = (codes "]", tt)
completion (InNumber (SideOf g Round) v) t = (codes ")", tt)
completion (BehindFirst n) t = (codes "[1]", tt)
completion (BehindSecond order width) t = (codes "1 1", tt)
completion (BeforeHeight order width) t = (codes "1[1]", tt)
completion (BehindThird r) t = (codes "1", tt)
completion (BehindRowSide r) t = ([], tt)
completion (BeforeGroup g) t = (codes "[1]", tt)
completion (BeforeSide g Square) t = (codes "1]", tt)
completion (BeforeSide g Round) t = (codes "1)", tt)
completion (BehindSide g Square) t = (codes "]", tt)
completion (BehindSide g Round) t = (codes ")", tt)
completion (BehindGroup g) t = ([], tt)
completion (InComment ending) t = ([], tt)

-- behind the front of a line the reader stands at this place, with these lists
abbrev pub LeadsToLists : List ℕ → Place → Lists → Type 0
LeadsToLists front p t = (x : List ℕ) → line_read_from (front ++ x) Start no_lists ≡ line_read_from x p t

-- what leads to a place, with one more byte
pub leads_on : (front : List ℕ) (p q : Place) (t : Lists) (b : ℕ) → LeadsToLists front p t → next_line_place p (line_kind_of b) ≡ Some q
    → LeadsToLists (front ++ b ∷ []) q (lists_behind_a_byte p (line_kind_of b) t)
leads_on front p q t b leads next x =
    ap (λ z. line_read_from z Start no_lists) (append_assoc front (b ∷ []) x) ∙ leads (b ∷ x)
    ∙ line_read_of_a_further_byte p q (line_kind_of b) t (lists_behind_a_byte p (line_kind_of b) t) b x refl next refl

-- a front that leads to a place begins a line
begins : (front : List ℕ) (p : Place) (t : Lists) → LeadsToLists front p t → Begins SomeLine front
begins front p t leads =
    let c = completion p t in
    let l = found (line_read_from c.0 p t) c.1 in
    (c.0, (l.0, read_is_line (front ++ c.0) l.0 (leads c.0 ∙ l.1)))

-- a byte behind which there is no place begins no rest of a line
no_more : (front : List ℕ) (p : Place) (t : Lists) (b : ℕ) (x : List ℕ) → LeadsToLists front p t → next_line_place p (line_kind_of b) ≡ None
    → ¬ (SomeLine (front ++ b ∷ x))
no_more front p t b x leads none (l, line) =
    let read' : line_read_from (b ∷ x) p t ≡ Some l = sym (leads (b ∷ x)) ∙ line_is_read l (front ++ b ∷ x) line in
    let stopped : line_read_from (b ∷ x) p t ≡ None = ap (λ next. option_and_then (λ q. line_read_from x q (lists_behind_a_byte p (line_kind_of b) t)) next)
    none in
    absurd (cc)

-- the bytes leave the grammar where the reader has no place for the next one
pub no_line_where_no_place_is_next : (bs : List ℕ) (at : ℕ) (p : Place) (t : Lists) → at < length bs → LeadsToLists (take at bs) p t
    → next_line_place p (line_kind_of (get_or bs at 0)) ≡ None → IsNoLine bs at
no_line_where_no_place_is_next bs at p t within leads none =
    leaves_before SomeLine bs at within (begins (take at bs) p t leads) (λ x. no_more (take at bs) p t (get_or bs at 0) x leads none)

-- at the end of the bytes the reader has read what the place and the lists tell
pub line_read_where_the_bytes_end : (bs : List ℕ) (p : Place) (t : Lists) → LeadsToLists bs p t → line_read_from bs Start no_lists ≡ line_read_from [] p t
line_read_where_the_bytes_end bs p t leads = ap (λ z. line_read_from z Start no_lists) (sym (append-nil bs)) ∙ leads []

-- bytes that end where no line may end leave the grammar at their end
pub no_line_where_bytes_end_early : (bs : List ℕ) (p : Place) (t : Lists) → LeadsToLists bs p t → line_ending_at p ≡ None → IsNoLine bs (length bs)
no_line_where_bytes_end_early bs p t leads none = leaves_at_end SomeLine bs (begins bs p t leads) no_line
  where
    no_line : ¬ (SomeLine bs)
    no_line (l, line) =
        let read' : line_read_from [] p t ≡ Some l = sym (line_read_where_the_bytes_end bs p t leads) ∙ line_is_read l bs line in
        let stopped : line_read_from [] p t ≡ None = ap (λ e. line_where_one_may_end e (and_side (last_side p) t)) none in
        absurd (cc)
