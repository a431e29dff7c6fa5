-- Lines of codes, and where bytes leave their grammar.
use Rattle.std.specs.Fmt.{digits}
use Rattle.std.specs.Prelude.{List, None, Some, [], codes, false, flat_map, refl, replicate, ℕ, ◌++◌, ◌∷◌, ◌≡◌}
use Rattle.std.proofs.Common.{arith, lit<, lit≤}
use Rattle.bk_text.specs.CodeLine.{Flat, IsLine, IsNoLine, Item, Skip}
use Rattle.bk_text.specs.CodeText.{code_text, size_text}
use Rattle.bk_text.specs.ReadLine.{IsInRange, IsTextFaultOf}
use Rattle.bk_text.specs.GatheredSides.{nothing_gathered, with_gathered_side, with_group}
use Rattle.bk_text.specs.Onward.{onward}
use Rattle.bk_text.specs.LineReader.{ended_side, line_kind_of, next_line_place, no_header}
use Rattle.bk_text.specs.declared.TextFault.TheVariants.{Many, Text}
use Rattle.bk_text.specs.declared.reader.Bracket.TheVariants.{Square}
use Rattle.bk_text.specs.declared.reader.Field.TheVariants.{Height, Side, Third}
use Rattle.bk_text.specs.declared.reader.Place.TheVariants.{BeforeGroup, BeforeSide, BehindGroup, BehindSide, Number, Start}
use Rattle.bk_text.proofs.KeepingAll.{no_lists}
use Rattle.bk_text.proofs.Stopping.{no_line_where_bytes_end_early, no_line_where_no_place_is_next}
use Rattle.bk_text.proofs.WhatWasRead.{read_is_line}

skip-comment : IsLine Skip (codes " ; text")
skip-comment = read_is_line (codes " ; text") Skip refl

line-two : IsLine (Item None None ((18 ∷ 1 ∷ []) ∷ [])) (codes "[18,1]")
line-two = read_is_line (codes "[18,1]") (Item None None ((18 ∷ 1 ∷ []) ∷ [])) refl

line-size : IsLine (Item None (Some (33, 32)) ((1 ∷ []) ∷ [])) (codes "33x32[1]")
line-size = read_is_line (codes "33x32[1]") (Item None (Some (33, 32)) ((1 ∷ []) ∷ [])) refl

-- groups of both kinds, with commas and blanks
line-comma : IsLine (Item None None ((1 ∷ []) ∷ (1 ∷ 2 ∷ []) ∷ [])) (codes "[1] , ( 1 ,2)")
line-comma = read_is_line (codes "[1] , ( 1 ,2)") (Item None None ((1 ∷ []) ∷ (1 ∷ 2 ∷ []) ∷ [])) refl

-- an order and a size, and a group right behind them
line-order : IsLine (Item (Some 1) (Some (1, 1)) ((1 ∷ []) ∷ [])) (codes "1 1x1[1];")
line-order = read_is_line (codes "1 1x1[1];") (Item (Some 1) (Some (1, 1)) ((1 ∷ []) ∷ [])) refl

-- the table row of the rectangle of three squares
line-table : IsLine (Flat 3 3 2 (2 ∷ 1 ∷ 1 ∷ [])) (codes "3 3 2 2 1 1")
line-table = read_is_line (codes "3 3 2 2 1 1") (Flat 3 3 2 (2 ∷ 1 ∷ 1 ∷ [])) refl

spelled-two : code_text ((18 ∷ 15 ∷ []) ∷ (7 ∷ []) ∷ []) ≡ codes "[18,15][7]"
unfolding digits
spelled-two = refl

spelled-size : size_text 33 32 ≡ codes "33x32"
unfolding digits
spelled-size = refl

-- where bytes leave the grammar
at-two_commas : IsNoLine (codes "[18,,15]") 4
at-two_commas = no_line_where_no_place_is_next (codes "[18,,15]") 4 (BeforeSide no_header Square) (record { groups = []; sides = 18 ∷ [] }) (lit< tt)
    (λ x. refl) refl

at-empty_group : IsNoLine (codes "[]") 1
at-empty_group = no_line_where_no_place_is_next (codes "[]") 1 (BeforeSide no_header Square) no_lists (lit< tt) (λ x. refl) refl

at-size_alone : IsNoLine (codes "33x32") 5
at-size_alone = no_line_where_bytes_end_early (codes "33x32") (Number (Height None 33) 32) no_lists (λ x. refl) refl

at-open_group : IsNoLine (codes "[18 ;") 4
at-open_group = no_line_where_no_place_is_next (codes "[18 ;") 4 (BehindSide no_header Square) (record { groups = []; sides = 18 ∷ [] }) (lit< tt)
    (λ x. refl) refl

at-other_bracket : IsNoLine (codes "[18)") 3
at-other_bracket = no_line_where_no_place_is_next (codes "[18)") 3 (Number (Side no_header Square) 18) no_lists (lit< tt) (λ x. refl) refl

at-zero : IsNoLine (codes "0x5 [1]") 0
at-zero = no_line_where_no_place_is_next (codes "0x5 [1]") 0 Start no_lists (lit< tt) (λ x. refl) refl

at-two_commas_between : IsNoLine (codes "[1],,[1]") 4
at-two_commas_between = no_line_where_no_place_is_next (codes "[1],,[1]") 4 (BeforeGroup no_header) (record { groups = (1 ∷ []) ∷ []; sides = [] }) (lit< tt)
    (λ x. refl) refl

at-long_side : IsNoLine (codes "[1234567890123456]") 16
at-long_side = no_line_where_no_place_is_next (codes "[1234567890123456]") 16 (Number (Side no_header Square) 123456789012345) no_lists (lit< tt)
    (λ x. refl) refl

-- a table row needs a side, and its sides are numbers
at-table : IsNoLine (codes "9 33 32") 7
at-table = no_line_where_bytes_end_early (codes "9 33 32") (Number (Third 9 33) 32) no_lists (λ x. refl) refl

-- what is read of that table row is in range, and an item without groups is not
in_range-table : IsInRange (Flat 3 3 2 (2 ∷ 1 ∷ 1 ∷ []))
in_range-table = (
  (lit< tt, lit≤ tt),
  (lit< tt, lit≤ tt),
  (lit< tt, lit≤ tt),
  lit< tt,
  lit≤ tt,
  ((lit< tt, lit≤ tt), ((lit< tt, lit≤ tt), ((lit< tt, lit≤ tt), tt))),
)

not_in_range-item : IsInRange (Item None None []) → ⊥
not_in_range-item some = omega (arith, some)

-- bytes that leave the grammar are refused for it
fault-two_commas : IsTextFaultOf (Text 4) (codes "[18,,15]")
fault-two_commas = at-two_commas

-- 201 squares of side 1 in a row, as a table row
abbrev ones : List ℕ
ones = replicate 201 1

abbrev long_row : List ℕ
long_row = codes "201 201 1" ++ flat_map (λ side. codes " 1") ones

-- it is a line, and has too many sides
fault-many : IsTextFaultOf Many long_row
fault-many = (Flat 201 201 1 ones, read_is_line long_row (Flat 201 201 1 ones) refl, lit< tt)

-- behind the side 18 a comma leads to the next side
comma-behind_side : next_line_place (Number (Side no_header Square) 18) (line_kind_of 44) ≡ Some (BeforeSide no_header Square)
comma-behind_side = refl

-- the side that ends before that comma
side-ended : ended_side (Number (Side no_header Square) 18) (line_kind_of 44) ≡ Some 18
side-ended = refl

-- the side 7, and its group closed
group-gathered : with_group (with_gathered_side 7 nothing_gathered) ≡ record { groups = (7 ∷ []) ∷ []; sides = []; many = false }
group-gathered = refl

-- seven bytes at once
group-onward : onward (codes "[18,15]") Start nothing_gathered
    ≡ Some (BehindGroup no_header, record { groups = (18 ∷ 15 ∷ []) ∷ []; sides = []; many = false })
group-onward = refl
