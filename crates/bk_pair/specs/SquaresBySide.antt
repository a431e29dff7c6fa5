-- How a tiling is kept that is to be joined with others: its squares by their sides.
-- Example (PairExamples): the squares of [2,1][1] by their sides are those of sides 1, 1 and 2, and the bits of 6 = 2^1
-- + 2^2 are their sides.
use Rattle.std.specs.Int.{bit_at}
use Rattle.std.specs.Prelude.{Bool, List, ℕ, ◌<◌, ◌^◌, ◌≡◌}
use Rattle.std.specs.List.Sorted.{IsNonDecreasingBy}
use Rattle.bk_tiling.specs.CodeOrder.{in_code_order}
use Rattle.bk_tiling.specs.Refusal.{IsAccepted}
use Rattle.bk_tiling.specs.Tiling.{Tiling}
use Rattle.bk_tiling.specs.declared.Square.{Square}
use Rattle.bk_pair.specs.OwnSides.{HasSide, stands_apart}

-- squares by ascending sides
abbrev pub AreSidesAscending : List Square → Type 0
AreSidesAscending squares = IsNonDecreasingBy (λ (q : Square). q.s) squares

-- the tiling of squares that come in any order
abbrev pub tiling_of : ℕ → ℕ → List Square → Tiling
tiling_of width height squares = record { width = width; height = height; squares = in_code_order squares }

-- the bits of the number are sides of the squares: where bit n is 1, one of them has the side n
abbrev pub AreSideBitsOf : ℕ → List Square → Type 0
AreSideBitsOf small squares = (side : ℕ) → bit_at small side ≡ 1 → HasSide squares side

-- the squares tile the rectangle of the size and stand by their sides, it is known whether the tiling stands apart, and
-- of their small sides some are known as bits
pub record IsKeptBySides (width height : ℕ) (squares : List Square) (apart : Bool) (small : ℕ) : Type 0 where
  pub accepted : IsAccepted width height squares
  pub width_fits : width < 2 ^ 64
  pub height_fits : height < 2 ^ 64
  pub ascending : AreSidesAscending squares
  pub apart_is : apart ≡ stands_apart (tiling_of width height squares)
  pub small_fits : small < 2 ^ 64
  pub small_sides : AreSideBitsOf small squares
