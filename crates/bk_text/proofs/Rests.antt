-- What completes a line from each place of the reader.
use Rattle.std.specs.Prelude.{List, None, Option, Some, [], codes, ℕ, ◌++◌, ◌∷◌, ◌≡◌, ◌⊎◌}
use Rattle.bk_grammar.proofs.NumbersRead.{Longer}
use Rattle.bk_grammar.specs.Grammar.{Blanks, Is, LineEnd, Nothing, Number, SomeBlanks, ◌or◌, ◌then◌}
use Rattle.bk_text.specs.CodeLine.{Flat, Groups, IsLine, Item, Line, Side, Sides, Skip}
use Rattle.bk_text.specs.LineReader.{most}
use Rattle.bk_text.specs.declared.reader.Bracket.{Bracket}
use Rattle.bk_text.specs.declared.reader.Field.{Field}
use Rattle.bk_text.specs.declared.reader.Field.TheVariants.{First, Height, RowSide, Second, Side as SideOf, Third}
use Rattle.bk_text.specs.declared.reader.Header.{Header}
use Rattle.bk_text.specs.declared.reader.Place.{Place}
use Rattle.bk_text.specs.declared.reader.Place.TheVariants.{BeforeGroup, BeforeHeight, BeforeSide, BehindFirst, BehindGroup, BehindRowSide}
use Rattle.bk_text.specs.declared.reader.Place.TheVariants.{BehindSecond, BehindSide, BehindThird, Comment, Number as InNumber, Start}
use Rattle.bk_text.specs.declared.reader.Table.{Table}
use Rattle.bk_text.proofs.ByteKinds.{close_byte}
use Rattle.bk_text.proofs.KeepingAll.{Lists, line_by_its_ending}

-- further groups, with what was read before them
abbrev pub onto : Lists → List (List ℕ) → List (List ℕ)
onto t [] = t.groups
onto t (g ∷ gs) = t.groups ++ (t.sides ++ g) ∷ gs

-- the whole line, with what was read before it
abbrev pub line_onto : Lists → Line → Line
line_onto t Skip = Skip
line_onto t (Item order size code) = Item order size (onto t code)
line_onto t (Flat order width height ns) = Flat order width height (t.sides ++ ns)

-- a code with the order and the size stated before it
abbrev pub item : Header → List (List ℕ) → Line
item h code = Item h.order h.size code

-- a row of a table
abbrev pub row : Table → List ℕ → Line
row r ns = Flat r.order r.width r.height ns

-- groups and the end of the line
abbrev pub CodeRest : List (List ℕ) → List ℕ → Type 0
CodeRest code = Blanks then Groups code then LineEnd

-- behind a group
abbrev pub GroupsRest : List (List ℕ) → List ℕ → Type 0
GroupsRest [] = LineEnd
GroupsRest (g ∷ gs) = Blanks then (Nothing or Is (codes ",") then Blanks) then Groups (g ∷ gs) then LineEnd

-- further sides
abbrev pub MoreSides : List ℕ → List ℕ → Type 0
MoreSides [] = Nothing
MoreSides (n ∷ ns) = Is (codes ",") then Sides (n ∷ ns)

-- before a side, and behind one
abbrev pub SidesRest : Bracket → List ℕ → List (List ℕ) → List ℕ → Type 0
SidesRest bracket ns gs = Sides ns then Is (close_byte bracket ∷ []) then GroupsRest gs

-- further sides of a group, and what follows the group
abbrev pub MoreSidesRest : Bracket → List ℕ → List (List ℕ) → List ℕ → Type 0
MoreSidesRest bracket ns gs = Blanks then MoreSides ns then Is (close_byte bracket ∷ []) then GroupsRest gs

-- the sides of a table row behind a number, and behind blanks after it
abbrev pub RowSides : List ℕ → List ℕ → Type 0
RowSides [] = LineEnd
RowSides (n ∷ ns) = SomeBlanks then Side n then RowSides ns

-- the sides of a table row behind a number, where the blanks after it were read
abbrev pub RowSidesAfterBlanks : List ℕ → List ℕ → Type 0
RowSidesAfterBlanks [] = LineEnd
RowSidesAfterBlanks (n ∷ ns) = Blanks then Side n then RowSides ns

-- a height and a code
abbrev pub HeightRest : Option ℕ → ℕ → Lists → Line → List ℕ → Type 0
HeightRest order width t l bs =
    (height : ℕ) × (code : List (List ℕ)) × (Number 18 height then CodeRest code) bs × (l ≡ Item order (Some (width, height)) (onto t code))

-- behind the first number, with this kind of gap before a second one
abbrev pub FirstRest : (List ℕ → Type 0) → ℕ → Lists → Line → List ℕ → Type 0
FirstRest Gap n t l bs =
    ((code : List (List ℕ)) × CodeRest code bs × (l ≡ Item (Some n) None (onto t code)))
    ⊎ ((width height : ℕ) × (code : List (List ℕ)) × (Gap then Number 18 width then Is (codes "x") then Number 18 height then CodeRest code) bs
    × (l ≡ Item (Some n) (Some (width, height)) (onto t code)))
    ⊎ ((width height side : ℕ) × (ns : List ℕ) × (Gap then Number 18 width then SomeBlanks then Number 18 height then RowSides (side ∷ ns)) bs
    × (l ≡ Flat n width height (t.sides ++ side ∷ ns)))

-- behind the second number of a table row
abbrev pub SecondRest : (List ℕ → Type 0) → ℕ → ℕ → Lists → Line → List ℕ → Type 0
SecondRest Gap order width t l bs =
    (height side : ℕ) × (ns : List ℕ) × (Gap then Number 18 height then RowSides (side ∷ ns)) bs × (l ≡ Flat order width height (t.sides ++ side ∷ ns))

-- right behind a number
abbrev pub NumberRest : Field → ℕ → Lists → Line → List ℕ → Type 0
NumberRest First n t l bs = FirstRest SomeBlanks n t l bs ⊎ ((rest : List ℕ) × (bs ≡ 120 ∷ rest) × HeightRest None n t l rest)
NumberRest (Second order) n t l bs = SecondRest SomeBlanks order n t l bs ⊎ ((rest : List ℕ) × (bs ≡ 120 ∷ rest) × HeightRest (Some order) n t l rest)
NumberRest (Height order width) n t l bs = (code : List (List ℕ)) × CodeRest code bs × (l ≡ Item order (Some (width, n)) (onto t code))
NumberRest (Third order width) n t l bs = (side : ℕ) × (ns : List ℕ) × RowSides (side ∷ ns) bs × (l ≡ Flat order width n (t.sides ++ side ∷ ns))
NumberRest (RowSide r) n t l bs = (ns : List ℕ) × RowSides ns bs × (l ≡ row r (t.sides ++ n ∷ ns))
NumberRest (SideOf h bracket) n t l bs =
    (ns : List ℕ) × (gs : List (List ℕ)) × MoreSidesRest bracket ns gs bs × (l ≡ item h (t.groups ++ (t.sides ++ n ∷ ns) ∷ gs))

-- what completes the line l
abbrev pub Rest : Place → Lists → Line → List ℕ → Type 0
Rest Start t l bs = (whole : Line) × IsLine whole bs × (l ≡ line_onto t whole)
Rest (InNumber field value) t l bs = (n : ℕ) × (ds rest : List ℕ) × (bs ≡ ds ++ rest) × Longer (most field) value n ds × NumberRest field n t l rest
Rest (BehindFirst n) t l bs = FirstRest Blanks n t l bs
Rest (BehindSecond order width) t l bs = SecondRest Blanks order width t l bs
Rest (BeforeHeight order width) t l bs = HeightRest order width t l bs
Rest (BehindThird r) t l bs = (side : ℕ) × (ns : List ℕ) × RowSidesAfterBlanks (side ∷ ns) bs × (l ≡ row r (t.sides ++ side ∷ ns))
Rest (BehindRowSide r) t l bs = (ns : List ℕ) × RowSidesAfterBlanks ns bs × (l ≡ row r (t.sides ++ ns))
Rest (BeforeGroup h) t l bs = (code : List (List ℕ)) × CodeRest code bs × (l ≡ item h (onto t code))
Rest (BeforeSide h bracket) t l bs = (ns : List ℕ) × (gs : List (List ℕ)) × SidesRest bracket ns gs bs × (l ≡ item h (t.groups ++ (t.sides ++ ns) ∷ gs))
Rest (BehindSide h bracket) t l bs = (ns : List ℕ) × (gs : List (List ℕ)) × MoreSidesRest bracket ns gs bs × (l ≡ item h (t.groups ++ (t.sides ++ ns) ∷ gs))
Rest (BehindGroup h) t l bs = (gs : List (List ℕ)) × GroupsRest gs bs × (l ≡ item h (onto t gs))
Rest (Comment ending) t l bs = l ≡ line_by_its_ending ending t

-- what completes a line from the next place, where there is one
abbrev pub RestAfter : Option Place → Lists → Line → List ℕ → Type 0
RestAfter None t l bs = ⊥
RestAfter (Some q) t l bs = Rest q t l bs
