-- Two tilings that can be laid together make a squared square, and a pair makes a perfect one.
use Rattle.std.proofs.Common.{arith, refl, ◌≤◌}
use Rattle.bk_tiling.proofs.Cells.{all_from}
use Rattle.bk_tiling.proofs.TilingLaws.{side_of, within_of}
use Rattle.bk_tiling.specs.KeptTiling.{IsKept, IsSide}
use Rattle.bk_tiling.specs.Tiling.{IsTiling, Tiling, order}
use Rattle.bk_sym.proofs.KeptImages.{kept_image}
use Rattle.bk_sym.specs.declared.Turn.TheVariants.{Swap}
use Rattle.bk_pair.proofs.LaidSquares.{kept_square}
use Rattle.bk_pair.proofs.SharedSides.{perfect_square}
use Rattle.bk_pair.specs.Pair.{CanBeLaid, joined_square}
use Rattle.bk_pair.specs.PairSquare.{APairMakesASquare, IsSquaredSquare}

-- a tiling of few squares is one that can be kept, if it is no larger than a square may be
kept_of : (t : Tiling) → IsTiling t → order t ≤ 200 → t.width ≤ 999_999_999_999_999 → t.height ≤ 999_999_999_999_999 → IsKept t
kept_of t tiling few wide high = record {
  tiling = tiling;
  few = few;
  sides = all_from (λ q. IsSide q.s) t.squares (λ q h. (side_of t tiling q h, omega (arith, (within_of t tiling q h).right, wide)));
  width_fits = omega (arith, wide);
  height_fits = omega (arith, high);
}

-- what two tilings make that can be laid together is a squared square
pub squared_square : (a b : Tiling) → IsTiling a → IsTiling b → CanBeLaid a b → IsSquaredSquare (joined_square a b)
squared_square a b tiling other can = record { kept = kept_square a b first (kept_image Swap b second) can; square = refl }
  where
    first : IsKept a
    first = kept_of a tiling (omega (arith, can.few)) can.wide can.high

    second : IsKept b
    second = kept_of b other (omega (arith, can.few)) (omega (arith, can.wide, can.size.width)) (omega (arith, can.high, can.size.height))

-- a pair makes a perfect one
pub a_pair_makes_a_square : APairMakesASquare
a_pair_makes_a_square a b tiling other = (
  squared_square a b tiling other,
  λ pair. (squared_square a b tiling other pair.laid, perfect_square a b pair.differ),
)
