-- Which lists of squares make a `Tiling`, and why another list is refused. Places count from 0 in the list as given.
-- Examples (RefusalExamples): of the squares (0, 0, 2), (2, 0, 2), (1, 1, 2) the first overlap is that of the places 0
-- and 2; in the rectangle 3x2 the squares (0, 0, 2), (2, 0, 1) leave the cell in column 2 at level 1 uncovered, and it
-- is the first.
use Rattle.std.specs.List.{AllByRecursion}
use Rattle.std.specs.Prelude.{All, AllPairs, HoldsAt, List, count_by, length, true, ℕ, ◌<◌, ◌≡◌, ◌≤◌}
use Rattle.std.specs.Prelude.{◌⊎◌}
use Rattle.bk_laws.specs.HasAt.{HasAt}
use Rattle.bk_tiling.specs.KeptTiling.{IsSide}
use Rattle.bk_tiling.specs.Tiling.{IsWithin, Rectangle, Tiles, covers}
use Rattle.bk_tiling.specs.declared.NotTiling.TheVariants.{Empty, Many, Outside, Overlap, Side, Uncovered}
use Rattle.bk_tiling.specs.declared.NotTiling.{NotTiling}
use Rattle.bk_tiling.specs.declared.Square.{Square}
use Rattle.bk_tiling.specs.declared.TheConstants.{MOST_SQUARES}

-- the rectangle of a size
abbrev pub sized : ℕ → ℕ → Rectangle
sized width height = record { x = 0; y = 0; width = width; height = height }

-- at most 200 squares, none too large, that tile the rectangle of the size
pub record IsAccepted (width height : ℕ) (squares : List Square) : Type 0 where
  pub few : length squares ≤ MOST_SQUARES
  pub sides : AllByRecursion (λ q. IsSide q.s) squares
  pub tiles : Tiles (sized width height) squares

-- some unit cell lies in both squares
pub record SharesCell (p q : Square) : Type 0 where
  pub column : ℕ
  pub level : ℕ
  pub in_first : covers column level p ≡ true
  pub in_second : covers column level q ≡ true

-- the list has squares at the places i and j, and these two share a cell
pub record ShareCellAt (squares : List Square) (i j : ℕ) : Type 0 where
  pub first : Square
  pub second : Square
  pub first_is : HasAt squares i first
  pub second_is : HasAt squares j second
  pub share : SharesCell first second

-- i is the least place of a square of which P holds
pub record IsFirstPlace (P : Square → Type 0) (squares : List Square) (i : ℕ) : Type 0 where
  pub below : i < length squares
  pub here : HoldsAt P squares i
  pub before : (k : ℕ) → k < i → HoldsAt (λ q. ¬ (P q)) squares k

-- (a, b) comes before (i, j): a is less, or it is the same and b is less
abbrev pub IsLesserPair : ℕ → ℕ → ℕ → ℕ → Type 0
IsLesserPair a b i j = (a < i) ⊎ ((a ≡ i) × (b < j))

-- (i, j) is the least pair of places, i before j, whose squares share a cell
pub record IsFirstOverlap (squares : List Square) (i j : ℕ) : Type 0 where
  pub ascending : i < j
  pub below : j < length squares
  pub here : ShareCellAt squares i j
  pub before : (a b : ℕ) → a < b → IsLesserPair a b i j → ¬ (ShareCellAt squares a b)

-- the cell in column x at level y lies in no square, and each cell above it or at its left lies in one
pub record IsFirstUncovered (width height : ℕ) (squares : List Square) (x y : ℕ) : Type 0 where
  pub column : x < width
  pub level : y < height
  pub free : count_by (covers x y) squares ≡ 0
  pub above : (i j : ℕ) → i < width → j < y → 0 < count_by (covers i j) squares
  pub left : (i : ℕ) → i < x → 0 < count_by (covers i y) squares

-- there are few enough squares
abbrev pub IsFew : List Square → Type 0
IsFew squares = length squares ≤ MOST_SQUARES

-- the rectangle has a cell
abbrev pub HasCells : ℕ → ℕ → Type 0
HasCells width height = (0 < width) × (0 < height)

-- each side is one that a square may have
abbrev pub HaveSides : List Square → Type 0
HaveSides squares = All (λ q. IsSide q.s) squares

-- each square is within the rectangle
abbrev pub AreWithin : ℕ → ℕ → List Square → Type 0
AreWithin width height squares = All (IsWithin (sized width height)) squares

-- no two share a cell
abbrev pub ShareNoCell : List Square → Type 0
ShareNoCell squares = AllPairs (λ p q. ¬ (SharesCell p q)) squares

-- why the squares do not make a `Tiling` of that size: the first test that they fail, and where
abbrev pub IsRefusal : ℕ → ℕ → List Square → NotTiling → Type 0
IsRefusal width height squares (Many n) = (MOST_SQUARES < length squares) × (n ≡ length squares)
IsRefusal width height squares Empty = IsFew squares × ((width ≡ 0) ⊎ (height ≡ 0))
IsRefusal width height squares (Side i) =
    IsFew squares × HasCells width height × IsFirstPlace (λ q. ¬ (IsSide q.s)) squares i
IsRefusal width height squares (Outside i) =
    IsFew squares × HasCells width height × HaveSides squares
    × IsFirstPlace (λ q. ¬ (IsWithin (sized width height) q)) squares i
IsRefusal width height squares (Overlap i j) =
    IsFew squares × HasCells width height × HaveSides squares × AreWithin width height squares
    × IsFirstOverlap squares i j
IsRefusal width height squares (Uncovered x y) =
    IsFew squares × HasCells width height × HaveSides squares × AreWithin width height squares
    × ShareNoCell squares × IsFirstUncovered width height squares x y
