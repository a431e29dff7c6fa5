-- A part of a line in front of what completes the line: with it the line is complete from the place before.
use Rattle.std.specs.Prelude.{List, None, Some, [], codes, refl, ℕ, ◌++◌, ◌∷◌, ◌≡◌}
use Rattle.std.proofs.Common.{ap, append_assoc, inl, inr, subst, sym, ◌∙◌}
use Rattle.std.proofs.lemmas.List.{append-nil}
use Rattle.bk_grammar.specs.Grammar.{Blanks, Comment, Is, IsBlank, LineEnd, Nothing, Number, SomeBlanks, ◌or◌, ◌then◌}
use Rattle.bk_text.specs.CodeLine.{Flat, Group, Groups, IsLine, Item, Line, Side, Sides, Size, Skip, TableSides}
use Rattle.bk_text.specs.declared.reader.Bracket.{Bracket}
use Rattle.bk_text.specs.declared.reader.Bracket.TheVariants.{Round, Square}
use Rattle.bk_text.specs.declared.reader.Field.TheVariants.{First}
use Rattle.bk_grammar.proofs.FirstByte.{blank_first, byte_first, gap_first, no_blank, regroup, then_weaken_second}
use Rattle.bk_text.proofs.ByteKinds.{close_byte, open_byte}
use Rattle.bk_text.proofs.KeepingAll.{Lists}
use Rattle.bk_text.proofs.Rests.{CodeRest, FirstRest, GroupsRest, MoreSides, MoreSidesRest, NumberRest, RowSides, RowSidesAfterBlanks, SidesRest, line_onto}

-- a blank in front of the groups that are left changes nothing
pub groups_blank : (gs : List (List ℕ)) (b : ℕ) (bs : List ℕ) → IsBlank b → GroupsRest gs bs → GroupsRest gs (b ∷ bs)
groups_blank [] b bs blank h = blank_first (Nothing or Comment) b bs blank h
groups_blank (g ∷ gs) b bs blank h = blank_first ((Nothing or Is (codes ",") then Blanks) then Groups (g ∷ gs) then LineEnd) b bs blank h

-- a blank in front of the sides of a table row changes nothing
pub row_sides_blank : (ns : List ℕ) (b : ℕ) (bs : List ℕ) → IsBlank b → RowSidesAfterBlanks ns bs → RowSides ns (b ∷ bs)
row_sides_blank [] b bs blank h = blank_first (Nothing or Comment) b bs blank h
row_sides_blank (n ∷ ns) b bs blank h = gap_first (Side n then RowSides ns) b bs blank h

-- a blank behind a side of a table row changes nothing
pub more_blank : (ns : List ℕ) (b : ℕ) (bs : List ℕ) → IsBlank b → RowSidesAfterBlanks ns bs → RowSidesAfterBlanks ns (b ∷ bs)
more_blank [] b bs blank h = blank_first (Nothing or Comment) b bs blank h
more_blank (n ∷ ns) b bs blank h = blank_first (Side n then RowSides ns) b bs blank h

sides_blank : (ns : List ℕ) (b : ℕ) (bs : List ℕ) → IsBlank b → Sides ns bs → Sides ns (b ∷ bs)
sides_blank [] b bs blank h = h
sides_blank (n ∷ []) b bs blank h = blank_first (Side n then Blanks) b bs blank h
sides_blank (n ∷ m ∷ ns) b bs blank h = blank_first (Side n then Blanks then Is (codes ",") then Sides (m ∷ ns)) b bs blank h

-- a blank in front of the sides of an open group and what follows changes nothing
pub sides_rest_blank : (bracket : Bracket) (ns : List ℕ) (gs : List (List ℕ)) (b : ℕ) (bs : List ℕ) → IsBlank b → SidesRest bracket ns gs bs
    → SidesRest bracket ns gs (b ∷ bs)
sides_rest_blank bracket ns gs b bs blank (s, x, e, sides, rest) = (b ∷ s, x, ap (λ z. b ∷ z) e, sides_blank ns b s blank sides, rest)

-- a blank behind the blanks after a first number changes nothing
pub first_blank : (n : ℕ) (t : Lists) (l : Line) (b : ℕ) (bs : List ℕ) → IsBlank b → FirstRest Blanks n t l bs → FirstRest Blanks n t l (b ∷ bs)
first_blank n t l b bs blank (inl (code, h, e)) = inl (code, blank_first (Groups code then LineEnd) b bs blank h, e)
first_blank n t l b bs blank (inr (inl (w, k, code, h, e))) =
    inr (inl (w, k, code, blank_first (Number 18 w then Is (codes "x") then Number 18 k then CodeRest code) b bs blank h, e))
first_blank n t l b bs blank (inr (inr (w, k, m, ns, h, e))) =
    inr (inr (w, k, m, ns, blank_first (Number 18 w then SomeBlanks then Number 18 k then RowSides (m ∷ ns)) b bs blank h, e))

-- a blank behind a first number is the first of the blanks there
pub first_gap : (n : ℕ) (t : Lists) (l : Line) (b : ℕ) (bs : List ℕ) → IsBlank b → FirstRest Blanks n t l bs → FirstRest SomeBlanks n t l (b ∷ bs)
first_gap n t l b bs blank (inl (code, h, e)) = inl (code, blank_first (Groups code then LineEnd) b bs blank h, e)
first_gap n t l b bs blank (inr (inl (w, k, code, h, e))) =
    inr (inl (w, k, code, gap_first (Number 18 w then Is (codes "x") then Number 18 k then CodeRest code) b bs blank h, e))
first_gap n t l b bs blank (inr (inr (w, k, m, ns, h, e))) =
    inr (inr (w, k, m, ns, gap_first (Number 18 w then SomeBlanks then Number 18 k then RowSides (m ∷ ns)) b bs blank h, e))

-- a blank in front of a line makes a line that means the same
pub line_blank : (l : Line) (b : ℕ) (bs : List ℕ) → IsBlank b → IsLine l bs → IsLine l (b ∷ bs)
line_blank Skip b bs blank (a, x, e, ha, hx) = (b ∷ a, x, ap (λ z. b ∷ z) e, (blank, ha), hx)
line_blank (Item order size code) b bs blank (a, x, e, ha, hx) = (b ∷ a, x, ap (λ z. b ∷ z) e, (blank, ha), hx)
line_blank (Flat order w h ns) b bs blank (a, x, e, ha, hx) = (b ∷ a, x, ap (λ z. b ∷ z) e, (blank, ha), hx)

-- a group and what follows
group_and_rest : (g : List ℕ) (gs : List (List ℕ)) (f x : List ℕ) → Group g f → GroupsRest gs x → (Groups (g ∷ gs) then LineEnd) (f ++ x)
group_and_rest g [] f x group rest = (f, x, refl, group, rest)
group_and_rest g (h ∷ gs) f x group (a, y, e, blanks, (c, z, e', comma, (k, end, e'', groups, ending))) =
    let all : x ≡ a ++ (c ++ (k ++ end)) = e ∙ ap (λ v. a ++ v) (e' ∙ ap (λ v. c ++ v) e'') in
    let regrouped : f ++ (a ++ (c ++ (k ++ end))) ≡ (f ++ (a ++ (c ++ k))) ++ end = simp append_assoc in (
      f ++ (a ++ (c ++ k)),
      end,
      ap (λ v. f ++ v) all ∙ regrouped,
      (f, a ++ (c ++ k), refl, group, (a, c ++ k, refl, blanks, (c, k, refl, comma, groups))),
      ending,
    )

group_made : (bracket : Bracket) (ns f c : List ℕ) → Sides ns f → c ≡ close_byte bracket ∷ [] → Group ns (open_byte bracket ∷ (f ++ c))
group_made Square ns f c sides close = inl (91 ∷ [], f ++ c, refl, refl, (f, c, refl, sides, close))
group_made Round ns f c sides close = inr (40 ∷ [], f ++ c, refl, refl, (f, c, refl, sides, close))

-- an opening bracket in front of the sides of a group and what follows
pub sides_rest-behind_bracket : (bracket : Bracket) (ns : List ℕ) (gs : List (List ℕ)) (b : ℕ) (bs : List ℕ) → b ≡ open_byte bracket
    → SidesRest bracket ns gs bs → (Groups (ns ∷ gs) then LineEnd) (b ∷ bs)
sides_rest-behind_bracket bracket ns gs b bs is (f, x, e, sides, (c, y, e', close, rest)) =
    let whole : (open_byte bracket ∷ (f ++ c)) ++ y ≡ b ∷ bs =
    ap (λ z. open_byte bracket ∷ z) (append_assoc f c y ∙ ap (λ z. f ++ z) (sym e') ∙ sym e) ∙ ap (λ z. z ∷ bs) (sym is) in
    subst (Groups (ns ∷ gs) then LineEnd) whole (group_and_rest ns gs (open_byte bracket ∷ (f ++ c)) y (group_made bracket ns f c sides close) rest)

-- a side and what follows
side_and_more : (n : ℕ) (ns f a m : List ℕ) → Side n f → Blanks a → MoreSides ns m → Sides (n ∷ ns) (f ++ (a ++ m))
side_and_more n [] f a m side blanks more =
    ([], f ++ (a ++ m), refl, tt, (f, a ++ m, refl, side, subst Blanks (sym (append-nil a) ∙ ap (λ z. a ++ z) (sym more)) blanks))
side_and_more n (k ∷ ns) f a m side blanks more = ([], f ++ (a ++ m), refl, tt, (f, a ++ m, refl, side, (a, m, refl, blanks, more)))

-- a side in front of the further sides of its group and what follows
pub side_first : (bracket : Bracket) (n : ℕ) (ns : List ℕ) (gs : List (List ℕ)) (f x : List ℕ) → Side n f → MoreSidesRest bracket ns gs x
    → SidesRest bracket (n ∷ ns) gs (f ++ x)
side_first bracket n ns gs f x side (a, y, e, blanks, (m, z, e', more, rest)) =
    let all : x ≡ a ++ (m ++ z) = e ∙ ap (λ v. a ++ v) e' in
    let regrouped : f ++ (a ++ (m ++ z)) ≡ (f ++ (a ++ m)) ++ z = simp append_assoc in
    (f ++ (a ++ m), z, ap (λ v. f ++ v) all ∙ regrouped, side_and_more n ns f a m side blanks more, rest)

-- a comma in front of the next side of the group
pub comma_first : (bracket : Bracket) (ns : List ℕ) (gs : List (List ℕ)) (b : ℕ) (bs : List ℕ) → b ≡ 44 → SidesRest bracket ns gs bs
    → MoreSidesRest bracket ns gs (b ∷ bs)
comma_first bracket [] gs b bs is (f, x, e, sides, rest) = absurd sides
comma_first bracket (n ∷ ns) gs b bs is (f, x, e, sides, rest) =
    ([], b ∷ bs, refl, tt, (44 ∷ f, x, ap (λ z. z ∷ bs) is ∙ ap (λ z. 44 ∷ z) e, (44 ∷ [], f, refl, refl, sides), rest))

-- a closing bracket in front of the groups that are left
pub close_first : (bracket : Bracket) (gs : List (List ℕ)) (b : ℕ) (bs : List ℕ) → b ≡ close_byte bracket → GroupsRest gs bs
    → MoreSidesRest bracket [] gs (b ∷ bs)
close_first bracket gs b bs is rest = ([], b ∷ bs, refl, tt, ([], b ∷ bs, refl, refl, byte_first (GroupsRest gs) (close_byte bracket) b bs is rest))

-- a comma in front of further groups
pub group_comma : (code : List (List ℕ)) (b : ℕ) (bs : List ℕ) → b ≡ 44 → CodeRest code bs → GroupsRest code (b ∷ bs)
group_comma [] b bs is (a, x, e, blanks, (f, y, e', groups, end)) = absurd groups
group_comma (g ∷ gs) b bs is (a, x, e, blanks, rest) =
    ([], b ∷ bs, refl, tt, (44 ∷ a, x, ap (λ z. z ∷ bs) is ∙ ap (λ z. 44 ∷ z) e, inr (44 ∷ [], a, refl, refl, blanks), rest))

-- an opening bracket in front of the first group of a code
pub groups_open : (bracket : Bracket) (ns : List ℕ) (gs : List (List ℕ)) (b : ℕ) (bs : List ℕ) → b ≡ open_byte bracket → SidesRest bracket ns gs bs
    → GroupsRest (ns ∷ gs) (b ∷ bs)
groups_open bracket ns gs b bs is rest =
    no_blank ((Nothing or Is (codes ",") then Blanks) then Groups (ns ∷ gs) then LineEnd) (b ∷ bs)
    ([], b ∷ bs, refl, inl refl, sides_rest-behind_bracket bracket ns gs b bs is rest)

-- the sides of a table row
row_sides_table : (n : ℕ) (ns bs : List ℕ) → RowSides (n ∷ ns) bs → (TableSides (n ∷ ns) then LineEnd) bs
row_sides_table n [] bs h = regroup SomeBlanks (Side n) LineEnd bs h
row_sides_table n (m ∷ ns) bs h =
    regroup SomeBlanks (Side n then TableSides (m ∷ ns)) LineEnd bs
    (then_weaken_second SomeBlanks (Side n then RowSides (m ∷ ns)) ((Side n then TableSides (m ∷ ns)) then LineEnd) bs
    (λ x k. regroup (Side n) (TableSides (m ∷ ns)) LineEnd x
    (then_weaken_second (Side n) (RowSides (m ∷ ns)) (TableSides (m ∷ ns) then LineEnd) x (λ y. row_sides_table m ns y) k)) h)

-- a size and what follows
sized : (w h : ℕ) (code : List (List ℕ)) (bs : List ℕ) → (Number 18 w then Is (codes "x") then Number 18 h then CodeRest code) bs
    → ((Size (w, h) then Blanks) then Groups code then LineEnd) bs
sized w h code bs rest =
    regroup (Size (w, h)) Blanks (Groups code then LineEnd) bs (regroup (Number 18 w) (Is (codes "x") then Number 18 h) (CodeRest code) bs
    (then_weaken_second (Number 18 w) (Is (codes "x") then Number 18 h then CodeRest code) ((Is (codes "x") then Number 18 h) then CodeRest code) bs
    (λ y. regroup (Is (codes "x")) (Number 18 h) (CodeRest code) y) rest))

-- a first number and what follows are a whole line
pub line-of_first_number : (n : ℕ) (f x : List ℕ) (t : Lists) (l : Line) → Number 18 n f → NumberRest First n t l x
    → (whole : Line) × IsLine whole (f ++ x) × (l ≡ line_onto t whole)
line-of_first_number n f x t l num (inl (inl (code, (a, y, e, blanks, rest), is))) = (
  Item (Some n) None code,
  no_blank ((Number 18 n then Blanks) then Groups code then LineEnd) (f ++ x)
      (regroup (Number 18 n) Blanks (Groups code then LineEnd) (f ++ x) (f, x, refl, num, (a, y, e, blanks, rest))),
  is,
)
line-of_first_number n f x t l num (inl (inr (inl (w, h, code, rest, is)))) = (
  Item (Some n) (Some (w, h)) code,
  no_blank ((Number 18 n then SomeBlanks then Size (w, h) then Blanks) then Groups code then LineEnd) (f ++ x)
      (regroup (Number 18 n) (SomeBlanks then Size (w, h) then Blanks) (Groups code then LineEnd) (f ++ x) (
        f,
        x,
        refl,
        num,
        regroup SomeBlanks (Size (w, h) then Blanks) (Groups code then LineEnd) x
            (then_weaken_second SomeBlanks (Number 18 w then Is (codes "x") then Number 18 h then CodeRest code)
            ((Size (w, h) then Blanks) then Groups code then LineEnd) x (λ y. sized w h code y) rest),
      )),
  is,
)
line-of_first_number n f x t l num (inl (inr (inr (w, h, m, ns, rest, is)))) = (
  Flat n w h (m ∷ ns),
  no_blank (Number 18 n then SomeBlanks then Number 18 w then SomeBlanks then Number 18 h then TableSides (m ∷ ns) then LineEnd) (f ++ x) (
    f,
    x,
    refl,
    num,
    then_weaken_second SomeBlanks (Number 18 w then SomeBlanks then Number 18 h then RowSides (m ∷ ns))
        (Number 18 w then SomeBlanks then Number 18 h then TableSides (m ∷ ns) then LineEnd) x
        (λ y. then_weaken_second (Number 18 w) (SomeBlanks then Number 18 h then RowSides (m ∷ ns))
        (SomeBlanks then Number 18 h then TableSides (m ∷ ns) then LineEnd) y
        (λ z. then_weaken_second SomeBlanks (Number 18 h then RowSides (m ∷ ns)) (Number 18 h then TableSides (m ∷ ns) then LineEnd) z
        (λ v. then_weaken_second (Number 18 h) (RowSides (m ∷ ns)) (TableSides (m ∷ ns) then LineEnd) v (λ u. row_sides_table m ns u)))) rest,
  ),
  is,
)
line-of_first_number n f x t l num (inr (y, e, (h, code, rest, is))) = (
  Item None (Some (n, h)) code,
  no_blank ((Size (n, h) then Blanks) then Groups code then LineEnd) (f ++ x)
      (sized n h code (f ++ x) (f, x, refl, num, (120 ∷ [], y, e, refl, rest))),
  is,
)
