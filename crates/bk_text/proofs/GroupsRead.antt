-- Groups of sides are read as the lists of their sides.
use Rattle.std.specs.Prelude.{List, Some, [], codes, option_and_then, refl, ℕ, ◌++◌, ◌∷◌, ◌≡◌, ◌⊎◌}
use Rattle.std.proofs.Common.{ap, append_assoc, arith, inl, inr, subst, sym, ◌∙◌}
use Rattle.bk_grammar.proofs.Reading.{Heads, Reads, byte_is, reads_parts}
use Rattle.bk_grammar.specs.Grammar.{Blanks, Is, LineEnd, Nothing, ◌or◌, ◌then◌}
use Rattle.bk_text.specs.CodeLine.{Group, Groups, Side, Sides}
use Rattle.bk_text.specs.LineReader.{line_kind_of, next_line_place}
use Rattle.bk_text.specs.declared.reader.Bracket.{Bracket}
use Rattle.bk_text.specs.declared.reader.Bracket.TheVariants.{Round, Square}
use Rattle.bk_text.specs.declared.reader.Ending.TheVariants.{Coded}
use Rattle.bk_text.specs.declared.reader.Field.TheVariants.{Side as SideOf}
use Rattle.bk_text.specs.declared.reader.Header.{Header}
use Rattle.bk_text.specs.declared.reader.ByteKind.TheVariants.{Open}
use Rattle.bk_text.specs.declared.reader.Place.{Place}
use Rattle.bk_text.specs.declared.reader.Place.TheVariants.{BeforeGroup, BeforeSide, BehindGroup, BehindSide, Number as InNumber}
use Rattle.bk_text.proofs.ByteKinds.{close_byte, open_byte}
use Rattle.bk_text.proofs.KeepingAll.{Lists, and_side, line_read_from, lists_behind_a_byte, no_lists}
use Rattle.bk_text.proofs.Rests.{item}
use Rattle.bk_text.proofs.NumbersRead.{Ends_at, Skips_blanks, behind_reads, blanks_reads, end_read, line_read_of_a_further_byte, number_reads}

-- the sides of a group
closed : (g : Header) (c : Bracket) (n : ℕ) (t : Lists) (y : List ℕ)
    → line_read_from (close_byte c ∷ y) (BehindSide g c) t ≡ line_read_from y (BehindGroup g) (record { groups = t.groups ++ t.sides ∷ []; sides = [] })
closed g Square n t y = refl
closed g Round n t y = refl

same_close : (g : Header) (c : Bracket) (n : ℕ) (t : Lists) (y : List ℕ)
    → line_read_from (close_byte c ∷ y) (InNumber (SideOf g c) n) t ≡ line_read_from (close_byte c ∷ y) (BehindSide g c) (and_side (Some n) t)
same_close g Square n t y = refl
same_close g Round n t y = refl

sides_read : (g : Header) (c : Bracket) (ns : List ℕ) (t : Lists) (text y : List ℕ) → Reads (Sides ns) text (close_byte c ∷ y)
    → line_read_from text (BeforeSide g c) t ≡ line_read_from y (BehindGroup g) (record { groups = t.groups ++ (t.sides ++ ns) ∷ []; sides = [] })
sides_read g c [] t text y r = absurd r.1
sides_read g c (n ∷ []) t text y r =
    let a = reads_parts Blanks (Side n then Blanks) text (close_byte c ∷ y) r in
    let b = reads_parts (Side n) Blanks a.0 (close_byte c ∷ y) a.2 in
    blanks_reads (BeforeSide g c) t text a.0 (refl, refl) a.1
    ∙ number_reads 15 n (BeforeSide g c) (SideOf g c) t a.0 b.0 (omega arith) (λ d. (refl, refl)) b.1
    ∙ behind_reads (InNumber (SideOf g c) n) (BehindSide g c) t (and_side (Some n) t) b.0 (close_byte c ∷ y) (refl, refl) (refl, refl)
    (same_close g c n t y) b.2
    ∙ closed g c n (and_side (Some n) t) y
sides_read g c (n ∷ m ∷ ns) t text y r =
    let a = reads_parts Blanks (Side n then Blanks then Is (codes ",") then Sides (m ∷ ns)) text (close_byte c ∷ y) r in
    let b = reads_parts (Side n) (Blanks then Is (codes ",") then Sides (m ∷ ns)) a.0 (close_byte c ∷ y) a.2 in
    let d = reads_parts Blanks (Is (codes ",") then Sides (m ∷ ns)) b.0 (close_byte c ∷ y) b.2 in
    let e = reads_parts (Is (codes ",")) (Sides (m ∷ ns)) d.0 (close_byte c ∷ y) d.2 in
    let comma : d.0 ≡ 44 ∷ e.0 = byte_is 44 d.0 e.0 e.1 in
    let same : line_read_from d.0 (InNumber (SideOf g c) n) t ≡ line_read_from d.0 (BehindSide g c) (and_side (Some n) t) =
    ap (λ z. line_read_from z (InNumber (SideOf g c) n) t) comma ∙ sym (ap (λ z. line_read_from z (BehindSide g c) (and_side (Some n) t)) comma) in
    blanks_reads (BeforeSide g c) t text a.0 (refl, refl) a.1
    ∙ number_reads 15 n (BeforeSide g c) (SideOf g c) t a.0 b.0 (omega arith) (λ d. (refl, refl)) b.1
    ∙ behind_reads (InNumber (SideOf g c) n) (BehindSide g c) t (and_side (Some n) t) b.0 d.0 (refl, refl) (refl, refl) same d.1
    ∙ ap (λ z. line_read_from z (BehindSide g c) (and_side (Some n) t)) comma
    ∙ sides_read g c (m ∷ ns) (and_side (Some n) t) e.0 y e.2
    ∙ ap (λ z. line_read_from y (BehindGroup g) (record { groups = t.groups ++ z ∷ []; sides = [] })) (append_assoc t.sides (n ∷ []) (m ∷ ns))

-- groups, from a place at which one may begin
abbrev pub Opens : Place → Header → Lists → Type 0
Opens p g t = (c : Bracket) → (next_line_place p (Open c) ≡ Some (BeforeSide g c)) × (lists_behind_a_byte p (Open c) t ≡ t)

-- groups, and no open one
abbrev pub whole_groups : List (List ℕ) → Lists
whole_groups gs = record { groups = gs; sides = [] }

kind_open : (c : Bracket) → line_kind_of (open_byte c) ≡ Open c
kind_open Square = refl
kind_open Round = refl

bracket_reads : (c : Bracket) (p : Place) (g : Header) (ns : List ℕ) (gs : List (List ℕ)) (text one two y : List ℕ) → Opens p g (whole_groups gs)
    → text ≡ open_byte c ∷ one → Reads (Sides ns) one two → two ≡ close_byte c ∷ y
    → line_read_from text p (whole_groups gs) ≡ line_read_from y (BehindGroup g) (whole_groups (gs ++ ns ∷ []))
bracket_reads c p g ns gs text one two y opens begins sides ends =
    let k = opens c in
    ap (λ z. line_read_from z p (whole_groups gs)) begins
    ∙ line_read_of_a_further_byte p (BeforeSide g c) (Open c) (whole_groups gs) (whole_groups gs) (open_byte c) one (kind_open c) k.0 k.1
    ∙ sides_read g c ns (whole_groups gs) one y (subst (Reads (Sides ns) one) ends sides)

group_reads : (p : Place) (g : Header) (ns : List ℕ) (gs : List (List ℕ)) (text y : List ℕ) → Opens p g (whole_groups gs) → Reads (Group ns) text y
    → line_read_from text p (whole_groups gs) ≡ line_read_from y (BehindGroup g) (whole_groups (gs ++ ns ∷ []))
group_reads p g ns gs text y opens (a, inl h, e) =
    let b = reads_parts (Is (codes "[")) (Sides ns then Is (codes "]")) text y (a, h, e) in
    let d = reads_parts (Sides ns) (Is (codes "]")) b.0 y b.2 in
    bracket_reads Square p g ns gs text b.0 d.0 y opens (byte_is 91 text b.0 b.1) d.1 (byte_is 93 d.0 y d.2)
group_reads p g ns gs text y opens (a, inr h, e) =
    let b = reads_parts (Is (codes "(")) (Sides ns then Is (codes ")")) text y (a, h, e) in
    let d = reads_parts (Sides ns) (Is (codes ")")) b.0 y b.2 in
    bracket_reads Round p g ns gs text b.0 d.0 y opens (byte_is 40 text b.0 b.1) d.1 (byte_is 41 d.0 y d.2)

groups_reads : (p : Place) (g : Header) (code gs : List (List ℕ)) (text y : List ℕ) → Opens p g (whole_groups gs) → Reads (Groups code) text y
    → line_read_from text p (whole_groups gs) ≡ line_read_from y (BehindGroup g) (whole_groups (gs ++ code))
groups_reads p g [] gs text y opens r = absurd r.1
groups_reads p g (ns ∷ []) gs text y opens r = group_reads p g ns gs text y opens r
groups_reads p g (ns ∷ ms ∷ code) gs text y opens r =
    let a = reads_parts (Group ns) (Blanks then (Nothing or Is (codes ",") then Blanks) then Groups (ms ∷ code)) text y r in
    let b = reads_parts Blanks ((Nothing or Is (codes ",") then Blanks) then Groups (ms ∷ code)) a.0 y a.2 in
    let d = reads_parts (Nothing or Is (codes ",") then Blanks) (Groups (ms ∷ code)) b.0 y b.2 in
    group_reads p g ns gs text a.0 opens a.1
    ∙ blanks_reads (BehindGroup g) (whole_groups (gs ++ ns ∷ [])) a.0 b.0 (refl, refl) b.1
    ∙ separated b.0 d.0 d.1 (λ q opens'. groups_reads q g (ms ∷ code) (gs ++ ns ∷ []) d.0 y opens' d.2)
    ∙ ap (λ z. line_read_from y (BehindGroup g) (whole_groups z)) (append_assoc gs (ns ∷ []) (ms ∷ code))
  where
    separated : (one two : List ℕ) → Reads (Nothing or Is (codes ",") then Blanks) one two
        → ((q : Place) → Opens q g (whole_groups (gs ++ ns ∷ []))
        → line_read_from two q (whole_groups (gs ++ ns ∷ [])) ≡ line_read_from y (BehindGroup g) (whole_groups ((gs ++ ns ∷ []) ++ ms ∷ code)))
        → line_read_from one (BehindGroup g) (whole_groups (gs ++ ns ∷ [])) ≡ line_read_from y (BehindGroup g) (whole_groups ((gs ++ ns ∷ []) ++ ms ∷ code))
    separated one two (a, inl none, e) rest = ap (λ z. line_read_from z (BehindGroup g) (whole_groups (gs ++ ns ∷ []))) (e ∙ ap (λ z. z ++ two) none)
        ∙ rest (BehindGroup g) (λ c. (refl, refl))
    separated one two (a, inr h, e) rest =
        let d = reads_parts (Is (codes ",")) Blanks one two (a, h, e) in
        ap (λ z. line_read_from z (BehindGroup g) (whole_groups (gs ++ ns ∷ []))) (byte_is 44 one d.0 d.1)
        ∙ blanks_reads (BeforeGroup g) (whole_groups (gs ++ ns ∷ [])) d.0 two (refl, refl) d.2
        ∙ rest (BeforeGroup g) (λ c. (refl, refl))

-- groups and the end of the line
pub code_read : (p : Place) (g : Header) (code : List (List ℕ)) (text : List ℕ) → Opens p g no_lists → (Groups code then LineEnd) text
    → line_read_from text p no_lists ≡ Some (item g code)
code_read p g code text opens (f, x, e, groups, end) =
    groups_reads p g code [] text x opens (f, groups, e)
    ∙ end_read (BehindGroup g) (Coded g) (whole_groups code) x (refl, refl) (record { here = refl; next = refl; lists = refl }) end

-- groups begin with a bracket
group_head : (ns f x : List ℕ) → Group ns f → Heads (λ b. (b ≡ 91) ⊎ (b ≡ 40)) (f ++ x)
group_head ns f x (inl (a, y, e, is, rest)) = subst (λ z. Heads (λ b. (b ≡ 91) ⊎ (b ≡ 40)) (z ++ x)) (sym (e ∙ ap (λ z. z ++ y) is)) (inl refl)
group_head ns f x (inr (a, y, e, is, rest)) = subst (λ z. Heads (λ b. (b ≡ 91) ⊎ (b ≡ 40)) (z ++ x)) (sym (e ∙ ap (λ z. z ++ y) is)) (inr refl)

groups_head : (code : List (List ℕ)) (text : List ℕ) → (Groups code then LineEnd) text → Heads (λ b. (b ≡ 91) ⊎ (b ≡ 40)) text
groups_head [] text (f, x, e, groups, end) = absurd groups
groups_head (ns ∷ []) text (f, x, e, groups, end) = subst (Heads (λ b. (b ≡ 91) ⊎ (b ≡ 40))) (sym e) (group_head ns f x groups)
groups_head (ns ∷ ms ∷ code) text (f, x, e, (a, y, e', group, rest), end) =
    subst (Heads (λ b. (b ≡ 91) ⊎ (b ≡ 40))) (sym (e ∙ ap (λ z. z ++ x) e' ∙ append_assoc a y x)) (group_head ns a (y ++ x) group)

-- a code behind a number and blanks
same_open : (p q : Place) (text : List ℕ) → ((c : Bracket) → next_line_place p (Open c) ≡ next_line_place q (Open c))
    → ((c : Bracket) → lists_behind_a_byte p (Open c) no_lists ≡ lists_behind_a_byte q (Open c) no_lists)
    → Heads (λ b. (b ≡ 91) ⊎ (b ≡ 40)) text → line_read_from text p no_lists ≡ line_read_from text q no_lists
same_open p q [] next lists h = absurd h
same_open p q (b ∷ text) next lists h = elim h [
  | inl e ↦ ap (λ z. line_read_from (z ∷ text) p no_lists) e ∙ both Square ∙ sym (ap (λ z. line_read_from (z ∷ text) q no_lists) e)
  | inr e ↦ ap (λ z. line_read_from (z ∷ text) p no_lists) e ∙ both Round ∙ sym (ap (λ z. line_read_from (z ∷ text) q no_lists) e)
]
  where
    both : (c : Bracket) → line_read_from (open_byte c ∷ text) p no_lists ≡ line_read_from (open_byte c ∷ text) q no_lists
    both Square = ap (λ u. option_and_then (λ r. line_read_from text r u) (next_line_place p (Open Square))) (lists Square)
        ∙ ap (option_and_then (λ r. line_read_from text r (lists_behind_a_byte q (Open Square) no_lists))) (next Square)
    both Round = ap (λ u. option_and_then (λ r. line_read_from text r u) (next_line_place p (Open Round))) (lists Round)
        ∙ ap (option_and_then (λ r. line_read_from text r (lists_behind_a_byte q (Open Round) no_lists))) (next Round)

-- a code behind a number and blanks is read as its groups
pub code_behind : (p q : Place) (g : Header) (code : List (List ℕ)) (text : List ℕ) → Ends_at p q no_lists no_lists → Skips_blanks q no_lists
    → Opens q g no_lists
    → ((c : Bracket) → next_line_place p (Open c) ≡ next_line_place q (Open c))
    → ((c : Bracket) → lists_behind_a_byte p (Open c) no_lists ≡ lists_behind_a_byte q (Open c) no_lists)
    → (Blanks then Groups code then LineEnd) text → line_read_from text p no_lists ≡ Some (item g code)
code_behind p q g code text ends skips opens next lists (a, x, e, blanks, rest) =
    behind_reads p q no_lists no_lists text x ends skips (same_open p q x next lists (groups_head code x rest)) (a, blanks, e) ∙ code_read q g code x opens rest
