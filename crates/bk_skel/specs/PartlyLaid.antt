-- Squares placed move by move, from sides in the order of laying: the squares laid so far, and the numbers of those
-- that are open, from left to right. Squares are numbered from 1 in the order of laying.
-- Example (PartlyLaidExamples): 2u.2eu lays the sides 5, 3, 2, 1 in the width 8; square 3 has its bottom at 5, and
-- square 4 stands alone over the leftmost valley, of width 1, which a square of the side 1 fills.
use Rattle.std.specs.List.{AllByRecursion, concat}
use Rattle.std.specs.Prelude.{List, length, sum_by, ℕ, ◌*◌, ◌+◌, ◌<◌, ◌^◌, ◌≡◌, ◌≤◌}
use Rattle.bk_tiling.specs.KeptTiling.{IsSide}
use Rattle.bk_tiling.specs.Tiling.{IsOneOf}
use Rattle.bk_tiling.specs.declared.Segment.{Segment}
use Rattle.bk_tiling.specs.declared.Square.{Square}
use Rattle.bk_word.specs.Outline.{IsLegalMove, Outline, valley_of}
use Rattle.bk_word.specs.declared.Sign.{Sign}
use Rattle.bk_word_net.specs.LaidOutline.{IsNumber, ShowsLaid, StandsOver, front_of, square_at}
use Rattle.bk_tiling.specs.declared.TheConstants.{LONGEST_SIDE, MOST_SQUARES}

-- where all fits the types of the code
pub record IsFittingGap (width : ℕ) (laid : List Square) (numbers : List ℕ) (v : Segment) : Type 0 where
  pub gap : StandsOver width laid numbers v
  pub some : 0 < v.width
  pub known : AllByRecursion (IsNumber laid) numbers
  pub fits : v.x + v.width < 2 ^ 63
  pub low : v.level < 2 ^ 63

-- over how many columns the squares of these numbers stand, where they stand side by side
abbrev pub columns_of : List Square → List ℕ → ℕ
columns_of laid numbers = sum_by (λ n. (square_at laid n).s) numbers

-- what is laid in a width of at most 200 longest sides, with the numbers of the open squares, while this is the outline
pub record IsPartlyLaid (width : ℕ) (laid : List Square) (numbers : List ℕ) (o : Outline) : Type 0 where
  pub shows : ShowsLaid width laid o
  pub some : 0 < width
  pub narrow : width ≤ LONGEST_SIDE * MOST_SQUARES
  pub numbers_are : numbers ≡ concat o.segments
  pub known : AllByRecursion (IsNumber laid) numbers
  pub few : length numbers ≤ length laid
  pub low : (q : Square) → IsOneOf q laid → q.y + q.s ≤ LONGEST_SIDE * length laid

-- what is laid so far in a width, and the numbers of those squares that are open
pub record PartlyLaid : Type 0 where
  pub width : ℕ
  pub laid : List Square
  pub numbers : List ℕ

-- how a move is laid: between which places the numbers of its valley stand, its signs, and the sides of its squares
pub record Laying : Type 0 where
  pub first : ℕ
  pub end : ℕ
  pub signs : List Sign
  pub sides : List ℕ

-- the move of these signs, of as many squares as sides, is legal, and its valley's numbers stand from `first` up to
-- `end`
pub record CanLay (b : PartlyLaid) (m : Laying) (o : Outline) : Type 0 where
  pub partly : IsPartlyLaid b.width b.laid b.numbers o
  pub legal : IsLegalMove o (record { count = length m.sides; signs = m.signs })
  pub first_is : m.first ≡ length (front_of o)
  pub end_is : m.end ≡ length (front_of o) + length (valley_of o)
  pub sides : AllByRecursion IsSide m.sides
  pub room : length b.laid + length m.sides ≤ MOST_SQUARES

-- all squares are laid, and one segment is left
pub record IsClosed (width : ℕ) (laid : List Square) (numbers : List ℕ) (o : Outline) : Type 0 where
  pub partly : IsPartlyLaid width laid numbers o
  pub one : length o.segments ≡ 1
  pub some : 0 < length laid
  pub few : length laid ≤ MOST_SQUARES
  pub sides : AllByRecursion (λ q. IsSide q.s) laid
