-- A byte in front of what completes a line: what completes it from the place behind the byte completes it from the place before.
use Rattle.std.specs.Char.{digit_value}
use Rattle.std.specs.Prelude.{Bool, List, None, Some, [], codes, if◌then◌else◌, nat_le, refl, true, ℕ, ◌*◌, ◌++◌, ◌+◌, ◌/◌, ◌<◌, ◌^◌, ◌∷◌, ◌≡◌, ◌≤◌}
use Rattle.std.specs.Str.Parse.{digits_value_after}
use Rattle.std.proofs.Common.{ap, append_assoc, arith, false, inl, inr, leb-true, subst, sym, ◌∙◌}
use Rattle.std.proofs.lemmas.List.{append-nil}
use Rattle.bk_laws.proofs.Digits.{digit_value-of_byte}
use Rattle.bk_grammar.specs.Grammar.{Is, LineEnd, Nothing, Number, SomeBlanks, ◌then◌}
use Rattle.bk_text.specs.CodeLine.{Groups, IsLine, Item, Line, Side, Skip}
use Rattle.bk_text.specs.LineReader.{field_with_digit, most, next_line_place}
use Rattle.bk_text.specs.declared.reader.Bracket.TheVariants.{Round, Square}
use Rattle.bk_text.specs.declared.reader.Field.{Field}
use Rattle.bk_text.specs.declared.reader.Field.TheVariants.{First, Height, RowSide, Second, Side as SideOf, Third}
use Rattle.bk_text.specs.declared.reader.ByteKind.TheVariants.{Blank, Close, Comma, Cross, Digit, Open, Semicolon, Zero}
use Rattle.bk_text.specs.declared.reader.Place.TheVariants.{BeforeGroup, BeforeHeight, BeforeSide, BehindFirst, BehindGroup, BehindRowSide, BehindSecond}
use Rattle.bk_text.specs.declared.reader.Place.TheVariants.{BehindSide, BehindThird, Comment as InComment, Number as InNumber, Start}
use Rattle.bk_text.specs.declared.reader.Table.{Table}
use Rattle.bk_grammar.proofs.FirstByte.{blank_first, comment_first, gap_first, no_blank}
use Rattle.bk_grammar.proofs.NumbersRead.{Longer, number_read}
use Rattle.bk_text.specs.declared.reader.ByteKind.{ByteKind}
use Rattle.bk_text.specs.declared.reader.Place.{Place}
use Rattle.bk_text.proofs.ByteKinds.{HasLineKind, close_byte}
use Rattle.bk_text.proofs.KeepingAll.{Lists, and_side, lists_behind_a_byte}
use Rattle.bk_text.proofs.Rests.{CodeRest, GroupsRest, MoreSides, Rest, RestAfter, RowSides, RowSidesAfterBlanks, SidesRest, item, onto, row}
use Rattle.bk_text.proofs.FrontParts.{close_first, row_sides_blank, comma_first, first_blank, first_gap, group_comma, groups_blank, groups_open, line_blank}
use Rattle.bk_text.proofs.FrontParts.{more_blank, line-of_first_number, sides_rest-behind_bracket, side_first, sides_rest_blank}

-- the greatest number of a field ends with 9
pub most-ends_in_nine : (field : Field) → most field / 10 * 10 + 9 ≤ most field
most-ends_in_nine First = omega arith
most-ends_in_nine (Second order) = omega arith
most-ends_in_nine (Height order width) = omega arith
most-ends_in_nine (Third order width) = omega arith
most-ends_in_nine (RowSide r) = omega arith
most-ends_in_nine (SideOf h bracket) = omega arith

-- a further digit of a number
grown : (field : Field) (v d b : ℕ) (t : Lists) (l : Line) (bs : List ℕ) → d < 10 → b ≡ 48 + d → RestAfter (field_with_digit field v d) t l bs
    → Rest (InNumber field v) t l (b ∷ bs)
grown field v d b t l bs small is h = when (nat_le v (most field / 10)) (λ e. leb-true v (most field / 10) e) h
  where
    when : (fits : Bool) → (fits ≡ true → v ≤ most field / 10) → RestAfter (if fits then Some (InNumber field (v * 10 + d)) else None) t l bs
        → Rest (InNumber field v) t l (b ∷ bs)
    when false below k = absurd k
    when true below (n, ds, x, e, (digits, value, kept), rest) =
        let own : digit_value b ≡ d = digit_value-of_byte d b small is in
        let within : v ≤ most field / 10 = below refl in (
          n,
          b ∷ ds,
          x,
          ap (λ z. b ∷ z) e,
          (
            (omega (arith, own), digits),
            ap (λ z. digits_value_after 10 (v * 10 + z) ds) own ∙ value,
            λ few. kept (tenth (most field) (most-ends_in_nine field) within),
          ),
          rest,
        )
      where
        tenth : (m : ℕ) → m / 10 * 10 + 9 ≤ m → v ≤ m / 10 → v * 10 + d ≤ m
        tenth m nines' below' = omega arith

-- groups behind a group that was closed
onto_group : (t : Lists) (gs : List (List ℕ)) → onto (record { groups = t.groups ++ t.sides ∷ []; sides = [] }) gs ≡ t.groups ++ t.sides ∷ gs
onto_group t [] = refl
onto_group t (g ∷ gs) = append_assoc t.groups (t.sides ∷ []) (g ∷ gs)

-- a number that has just begun: its first digit, and what completes the line
first_side : (most' greatest b d n : ℕ) (ds : List ℕ) → greatest < 10 ^ most' → 9 ≤ greatest → HasLineKind (Digit d) b → Longer greatest d n ds
    → Number most' n (b ∷ ds)
first_side most' greatest b d n ds bound large m longer' = number_read most' greatest b d n ds bound (omega (arith, m.1)) m.0 m.1 m.2 longer'

row_sides_first : (r : Table) (d b : ℕ) (t : Lists) (l : Line) (bs : List ℕ) → HasLineKind (Digit d) b → Rest (InNumber (RowSide r) d) t l bs
    → (m : ℕ) × (ns : List ℕ) × RowSidesAfterBlanks (m ∷ ns) (b ∷ bs) × (l ≡ row r (t.sides ++ m ∷ ns))
row_sides_first r d b t l bs m (n, ds, x, e, longer', (ns, rest, is)) = (
  n,
  ns,
  no_blank (Side n then RowSides ns) (b ∷ bs)
      (b ∷ ds, x, ap (λ z. b ∷ z) e, first_side 15 (most (RowSide r)) b d n ds (omega arith) (omega arith) m longer', rest),
  is,
)

-- a byte, and what completes a line from the place behind it, complete a line
behind_number : (field : Field) (v : ℕ) (k : ByteKind) (t : Lists) (l : Line) (b : ℕ) (bs : List ℕ) → HasLineKind k b
    → RestAfter (next_line_place (InNumber field v) k) (lists_behind_a_byte (InNumber field v) k t) l bs → Rest (InNumber field v) t l (b ∷ bs)
behind_number First v Zero t l b bs m h = grown First v 0 b t l bs (omega arith) m h
behind_number (Second o) v Zero t l b bs m h = grown (Second o) v 0 b t l bs (omega arith) m h
behind_number (Height o w) v Zero t l b bs m h = grown (Height o w) v 0 b t l bs (omega arith) m h
behind_number (Third o w) v Zero t l b bs m h = grown (Third o w) v 0 b t l bs (omega arith) m h
behind_number (RowSide r) v Zero t l b bs m h = grown (RowSide r) v 0 b t l bs (omega arith) m h
behind_number (SideOf g c) v Zero t l b bs m h = grown (SideOf g c) v 0 b t l bs (omega arith) m h
behind_number First v (Digit d) t l b bs m h = grown First v d b t l bs m.1 m.2 h
behind_number (Second o) v (Digit d) t l b bs m h = grown (Second o) v d b t l bs m.1 m.2 h
behind_number (Height o w) v (Digit d) t l b bs m h = grown (Height o w) v d b t l bs m.1 m.2 h
behind_number (Third o w) v (Digit d) t l b bs m h = grown (Third o w) v d b t l bs m.1 m.2 h
behind_number (RowSide r) v (Digit d) t l b bs m h = grown (RowSide r) v d b t l bs m.1 m.2 h
behind_number (SideOf g c) v (Digit d) t l b bs m h = grown (SideOf g c) v d b t l bs m.1 m.2 h
behind_number First v Blank t l b bs m h = (v, [], b ∷ bs, refl, (tt, refl, (λ few. few)), inl (first_gap v t l b bs m h))
behind_number First v Cross t l b bs m h = (v, [], b ∷ bs, refl, (tt, refl, (λ few. few)), inr (bs, ap (λ z. z ∷ bs) m, h))
behind_number First v (Open bracket) t l b bs m (ns, gs, rest, is) = (
  v,
  [],
  b ∷ bs,
  refl,
  (tt, refl, (λ few. few)),
  inl (inl (ns ∷ gs, no_blank (Groups (ns ∷ gs) then LineEnd) (b ∷ bs) (sides_rest-behind_bracket bracket ns gs b bs m rest), is)),
)
behind_number (Second o) v Blank t l b bs m (height, side, ns, rest, is) =
    (v, [], b ∷ bs, refl, (tt, refl, (λ few. few)), inl (height, side, ns, gap_first (Number 18 height then RowSides (side ∷ ns)) b bs m rest, is))
behind_number (Second o) v Cross t l b bs m h = (v, [], b ∷ bs, refl, (tt, refl, (λ few. few)), inr (bs, ap (λ z. z ∷ bs) m, h))
behind_number (Height o w) v Blank t l b bs m (code, rest, is) =
    (v, [], b ∷ bs, refl, (tt, refl, (λ few. few)), (code, blank_first (Groups code then LineEnd) b bs m rest, is))
behind_number (Height o w) v (Open bracket) t l b bs m (ns, gs, rest, is) = (
  v,
  [],
  b ∷ bs,
  refl,
  (tt, refl, (λ few. few)),
  (
    ns ∷ gs,
    no_blank (Groups (ns ∷ gs) then LineEnd) (b ∷ bs)
        (sides_rest-behind_bracket bracket ns gs b bs m rest),
    is,
  ),
)
behind_number (Third o w) v Blank t l b bs m (side, ns, rest, is) =
    (v, [], b ∷ bs, refl, (tt, refl, (λ few. few)), (side, ns, row_sides_blank (side ∷ ns) b bs m rest, is))
behind_number (RowSide r) v Blank t l b bs m (ns, rest, is) =
    (v, [], b ∷ bs, refl, (tt, refl, (λ few. few)), (ns, row_sides_blank ns b bs m rest, is ∙ ap (row r) (append_assoc t.sides (v ∷ []) ns)))
behind_number (RowSide r) v Semicolon t l b bs m h = (v, [], b ∷ bs, refl, (tt, refl, (λ few. few)), ([], comment_first b bs m, h))
behind_number (SideOf g c) v Blank t l b bs m (ns, gs, rest, is) = (
  v,
  [],
  b ∷ bs,
  refl,
  (tt, refl, (λ few. few)),
  (
    ns,
    gs,
    blank_first (MoreSides ns then Is (close_byte c ∷ []) then GroupsRest gs) b bs m rest,
    is ∙ ap (λ z. item g (t.groups ++ z ∷ gs)) (append_assoc t.sides (v ∷ []) ns),
  ),
)
behind_number (SideOf g c) v Comma t l b bs m (ns, gs, rest, is) = (
  v,
  [],
  b ∷ bs,
  refl,
  (tt, refl, (λ few. few)),
  (ns, gs, comma_first c ns gs b bs m rest, is ∙ ap (λ z. item g (t.groups ++ z ∷ gs)) (append_assoc t.sides (v ∷ []) ns)),
)
behind_number (SideOf g Square) v (Close Square) t l b bs m (gs, rest, is) =
    (v, [], b ∷ bs, refl, (tt, refl, (λ few. few)), ([], gs, close_first Square gs b bs m rest, is ∙ ap (item g) (onto_group (and_side (Some v) t) gs)))
behind_number (SideOf g Round) v (Close Round) t l b bs m (gs, rest, is) =
    (v, [], b ∷ bs, refl, (tt, refl, (λ few. few)), ([], gs, close_first Round gs b bs m rest, is ∙ ap (item g) (onto_group (and_side (Some v) t) gs)))
behind_number (SideOf g Square) v (Close Round) t l b bs m h = absurd h
behind_number (SideOf g Round) v (Close Square) t l b bs m h = absurd h
behind_number field v k t l b bs m h = absurd h

-- a byte of any kind in front of what completes the line from the place behind it
pub behind_byte : (p : Place) (k : ByteKind) (t : Lists) (l : Line) (b : ℕ) (bs : List ℕ) → HasLineKind k b
    → RestAfter (next_line_place p k) (lists_behind_a_byte p k t) l bs
    → Rest p t l (b ∷ bs)
behind_byte (InNumber field v) k t l b bs m h = behind_number field v k t l b bs m h
behind_byte Start Blank t l b bs m (whole, h, is) = (whole, line_blank whole b bs m h, is)
behind_byte Start (Digit d) t l b bs m (n, ds, x, e, longer', rest) =
    let line = line-of_first_number n (b ∷ ds) x t l (first_side 18 (most First) b d n ds (omega arith) (omega arith) m longer') rest in
    (line.0, subst (IsLine line.0) (ap (λ z. b ∷ z) (sym e)) line.1, line.2)
behind_byte Start (Open bracket) t l b bs m (ns, gs, rest, is) = (
  Item None None (ns ∷ gs),
  no_blank (Nothing then Groups (ns ∷ gs) then LineEnd) (b ∷ bs)
      ([], b ∷ bs, refl, refl, sides_rest-behind_bracket bracket ns gs b bs m rest),
  is,
)
behind_byte Start Semicolon t l b bs m h = (Skip, comment_first b bs m, h)
behind_byte (BehindFirst n) Blank t l b bs m h = first_blank n t l b bs m h
behind_byte (BehindFirst n) (Digit d) t l b bs m (w, ds, x, e, longer', inl (height, side, ns, rest, is)) =
    inr (inr (
      w,
      height,
      side,
      ns,
      no_blank (Number 18 w then SomeBlanks then Number 18 height then RowSides (side ∷ ns)) (b ∷ bs)
          (b ∷ ds, x, ap (λ z. b ∷ z) e, first_side 18 (most First) b d w ds (omega arith) (omega arith) m longer', rest),
      is,
    ))
behind_byte (BehindFirst n) (Digit d) t l b bs m (w, ds, x, e, longer', inr (y, cross, (height, code, rest, is))) =
    inr (inl (
      w,
      height,
      code,
      no_blank (Number 18 w then Is (codes "x") then Number 18 height then CodeRest code) (b ∷ bs)
          (b ∷ ds, x, ap (λ z. b ∷ z) e, first_side 18 (most First) b d w ds (omega arith) (omega arith) m longer', (120 ∷ [], y, cross, refl, rest)),
      is,
    ))
behind_byte (BehindFirst n) (Open bracket) t l b bs m (ns, gs, rest, is) =
    inl (ns ∷ gs, no_blank (Groups (ns ∷ gs) then LineEnd) (b ∷ bs) (sides_rest-behind_bracket bracket ns gs b bs m rest), is)
behind_byte (BehindSecond o w) Blank t l b bs m (height, side, ns, rest, is) =
    (height, side, ns, blank_first (Number 18 height then RowSides (side ∷ ns)) b bs m rest, is)
behind_byte (BehindSecond o w) (Digit d) t l b bs m (n, ds, x, e, longer', (side, ns, rest, is)) = (
  n,
  side,
  ns,
  no_blank (Number 18 n then RowSides (side ∷ ns)) (b ∷ bs)
      (b ∷ ds, x, ap (λ z. b ∷ z) e, first_side 18 (most First) b d n ds (omega arith) (omega arith) m longer', rest),
  is,
)
behind_byte (BeforeHeight o w) (Digit d) t l b bs m (n, ds, x, e, longer', (code, rest, is)) =
    (n, code, (b ∷ ds, x, ap (λ z. b ∷ z) e, first_side 18 (most First) b d n ds (omega arith) (omega arith) m longer', rest), is)
behind_byte (BehindThird r) Blank t l b bs m (side, ns, rest, is) = (side, ns, more_blank (side ∷ ns) b bs m rest, is)
behind_byte (BehindThird r) (Digit d) t l b bs m h = row_sides_first r d b t l bs m h
behind_byte (BehindRowSide r) Blank t l b bs m (ns, rest, is) = (ns, more_blank ns b bs m rest, is)
behind_byte (BehindRowSide r) (Digit d) t l b bs m h = let c = row_sides_first r d b t l bs m h in (c.0 ∷ c.1, c.2, c.3)
behind_byte (BehindRowSide r) Semicolon t l b bs m h = ([], comment_first b bs m, h ∙ ap (row r) (sym (append-nil t.sides)))
behind_byte (BeforeGroup g) Blank t l b bs m (code, rest, is) = (code, blank_first (Groups code then LineEnd) b bs m rest, is)
behind_byte (BeforeGroup g) (Open bracket) t l b bs m (ns, gs, rest, is) =
    (ns ∷ gs, no_blank (Groups (ns ∷ gs) then LineEnd) (b ∷ bs) (sides_rest-behind_bracket bracket ns gs b bs m rest), is)
behind_byte (BeforeSide g c) Blank t l b bs m (ns, gs, rest, is) = (ns, gs, sides_rest_blank c ns gs b bs m rest, is)
behind_byte (BeforeSide g c) (Digit d) t l b bs m (n, ds, x, e, longer', (ns, gs, rest, is)) = (
  n ∷ ns,
  gs,
  subst (SidesRest c (n ∷ ns) gs) (ap (λ z. b ∷ z) (sym e))
      (side_first c n ns gs (b ∷ ds) x (first_side 15 (most (SideOf g c)) b d n ds (omega arith) (omega arith) m longer') rest),
  is,
)
behind_byte (BehindSide g c) Blank t l b bs m (ns, gs, rest, is) =
    (ns, gs, blank_first (MoreSides ns then Is (close_byte c ∷ []) then GroupsRest gs) b bs m rest, is)
behind_byte (BehindSide g c) Comma t l b bs m (ns, gs, rest, is) = (ns, gs, comma_first c ns gs b bs m rest, is)
behind_byte (BehindSide g Square) (Close Square) t l b bs m (gs, rest, is) =
    ([], gs, close_first Square gs b bs m rest, is ∙ ap (item g) (onto_group t gs) ∙ ap (λ z. item g (t.groups ++ z ∷ gs)) (sym (append-nil t.sides)))
behind_byte (BehindSide g Round) (Close Round) t l b bs m (gs, rest, is) =
    ([], gs, close_first Round gs b bs m rest, is ∙ ap (item g) (onto_group t gs) ∙ ap (λ z. item g (t.groups ++ z ∷ gs)) (sym (append-nil t.sides)))
behind_byte (BehindSide g Square) (Close Round) t l b bs m h = absurd h
behind_byte (BehindSide g Round) (Close Square) t l b bs m h = absurd h
behind_byte (BehindGroup g) Blank t l b bs m (gs, rest, is) = (gs, groups_blank gs b bs m rest, is)
behind_byte (BehindGroup g) Comma t l b bs m (code, rest, is) = (code, group_comma code b bs m rest, is)
behind_byte (BehindGroup g) (Open bracket) t l b bs m (ns, gs, rest, is) =
    (ns ∷ gs, groups_open bracket ns gs b bs m rest, is)
behind_byte (BehindGroup g) Semicolon t l b bs m h = ([], comment_first b bs m, h)
behind_byte (InComment ending) k t l b bs m h = h
behind_byte p k t l b bs m h = absurd h
