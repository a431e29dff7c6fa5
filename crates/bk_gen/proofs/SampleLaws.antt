-- Each trial code has its tiling.
use Rattle.std.specs.List.{AllByRecursion, list_all}
use Rattle.std.specs.Prelude.{Bool, IsTrue, slice_index_or}
use Rattle.std.proofs.Common.{List, [], arith, leb-true, length, ltb-true, nat_le, nat_lt, refl, suc, zero, ℕ, ◌%◌, ◌&&◌, ◌-◌, ◌<◌, ◌^◌, ◌∷◌, ◌≤◌}
use Rattle.std.proofs.lemmas.Bool.{and_parts}
use Rattle.bk_laws.proofs.AllOfLists.{all_from_test}
use Rattle.bk_tiling.proofs.TilingTest.{area_test, code_order_test, tiling_from_test}
use Rattle.bk_tiling.specs.KeptTiling.{IsKept, IsSide}
use Rattle.bk_tiling.specs.Tiling.{Tiling}
use Rattle.bk_tiling.specs.declared.Square.{Square}
use Rattle.bk_gen.specs.Attaching.{attached}
use Rattle.bk_gen.specs.Growing.{IsGrowing}
use Rattle.bk_gen.specs.TrialCodes.{first_rectangle, mixed, rectangle_33x32, rectangle_65x47, rectangle_69x61, trial_tiling}
use Rattle.bk_gen.proofs.GrowingLaws.{grows_on, kept_in_order}

-- whether each side is one that a square may have
abbrev sides_test : List Square → Bool
sides_test squares = list_all (λ q. nat_lt 0 q.s && nat_le q.s 999_999_999_999_999) squares

sides_from_test : (squares : List Square) → IsTrue (sides_test squares) → AllByRecursion (λ q. IsSide q.s) squares
sides_from_test squares h = all_from_test (λ q. IsSide q.s) (λ q. nat_lt 0 q.s && nat_le q.s 999_999_999_999_999) is_side squares h
  where
    is_side : (q : Square) → IsTrue (nat_lt 0 q.s && nat_le q.s 999_999_999_999_999) → IsSide q.s
    is_side q e = let parts = and_parts (nat_lt 0 q.s) (nat_le q.s 999_999_999_999_999) e in (ltb-true 0 q.s parts.0, leb-true q.s 999_999_999_999_999 parts.1)

growing_from_test : (t : Tiling) → length t.squares ≤ 200 → t.width < 2 ^ 64 → t.height < 2 ^ 64 → IsTrue (sides_test t.squares)
    → IsTrue (area_test t.width t.height t.squares && code_order_test t.squares) → IsGrowing t
growing_from_test t few wide high sides tiles = record {
  accepted = record { few = few; sides = sides_from_test t.squares sides; tiles = (tiling_from_test t tiles).tiles };
  width_fits = wide;
  height_fits = high;
}

-- the first of the three rectangles can grow
pub growing_33x32 : IsGrowing rectangle_33x32
growing_33x32 = growing_from_test rectangle_33x32 (omega arith) (omega arith) (omega arith) refl refl

-- the second rectangle that a trial code begins with can grow
pub growing_69x61 : IsGrowing rectangle_69x61
growing_69x61 = growing_from_test rectangle_69x61 (omega arith) (omega arith) (omega arith) refl refl

-- the third rectangle that a trial code begins with can grow
pub growing_65x47 : IsGrowing rectangle_65x47
growing_65x47 = growing_from_test rectangle_65x47 (omega arith) (omega arith) (omega arith) refl refl

one_of_three : (m : ℕ) → IsGrowing (slice_index_or (rectangle_33x32 ∷ rectangle_69x61 ∷ rectangle_65x47 ∷ []) m rectangle_33x32)
one_of_three zero = growing_33x32
one_of_three (suc zero) = growing_69x61
one_of_three (suc (suc zero)) = growing_65x47
one_of_three (suc (suc (suc m))) = growing_33x32

-- each rectangle that a trial code begins with can grow
pub first_growing : (v : ℕ) → IsGrowing (first_rectangle v)
first_growing v = one_of_three (v % 3)

-- the rectangle of a trial code has grown once all squares are attached
pub all_attached : (v : ℕ) → IsGrowing (attached (200 - length (first_rectangle v).squares) v 0 (first_rectangle v))
all_attached v =
    let few : length (first_rectangle v).squares ≤ 200 = ((first_growing v).accepted).few in
    grows_on (200 - length (first_rectangle v).squares) v 0 (first_rectangle v) (first_growing v) (omega arith)

-- the tiling of a trial code can be a `Tiling`
pub trial_kept : (v : ℕ) → IsKept (trial_tiling v)
trial_kept v = kept_in_order (attached (200 - length (first_rectangle v).squares) v 0 (first_rectangle v)) (all_attached v)

-- the tiling of each place of a seed can be a `Tiling`
pub sample_kept : (seed k : ℕ) → IsKept (trial_tiling (mixed seed k))
sample_kept seed k = trial_kept (mixed seed k)
