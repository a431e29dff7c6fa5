-- Squares of a tiling in another order: they are accepted, and put in code order they are the tiling again.
use Rattle.std.specs.List.{AllByRecursion}
use Rattle.std.specs.List.Sorted.{IsPermutation}
use Rattle.std.specs.Prelude.{OnOk, Result, false}
use Rattle.std.specs.Result.{is_err}
use Rattle.std.proofs.Common.{Bool, List, [], arith, cond, refl, subst, sym, ℕ, ◌++◌, ◌<◌, ◌^◌, ◌∙◌, ◌≡◌}
use Rattle.std.proofs.lemmas.List.Elements.{All-from_recursion, recursion_from_All}
use Rattle.std.proofs.lemmas.List.Sorted.{All-permutation, IsPermutation-sym, length_permutation, sum_by-IsPermutation}
use Rattle.bk_laws.proofs.Outcomes.{on_ok-apply}
use Rattle.bk_tiling.proofs.Cells.{all_from, in_all}
use Rattle.bk_tiling.proofs.OneRefusal.{kept_from, tiles_apart}
use Rattle.bk_tiling.proofs.PuttingInOrder.{from_order, in_order}
use Rattle.bk_tiling.proofs.Scaling.{same_members}
use Rattle.bk_tiling.specs.CodeOrder.{in_code_order}
use Rattle.bk_tiling.specs.KeptTiling.{IsKept, IsSide}
use Rattle.bk_tiling.specs.Refusal.{HaveSides, IsAccepted, ShareNoCell, sized}
use Rattle.bk_tiling.specs.Tiling.{IsOneOf, IsWithin, Tiling, covers}
use Rattle.bk_tiling.specs.declared.Square.{Square}
use Rattle.bk_pair.specs.SquaresBySide.{AreSideBitsOf, AreSidesAscending, IsKeptBySides, tiling_of}
use Rattle.bk_pair.specs.OwnSides.{stands_apart}

-- squares that were copied to an empty list
pub copied_to_empty : {T E : Type 0} (r : Result T E) (empty part kept all : List Square) → is_err r ≡ false → OnOk r (all ≡ empty ++ part) → empty ≡ []
    → part ≡ kept → all ≡ kept
copied_to_empty r empty part kept all ok is none same =
    on_ok-apply r (all ≡ empty ++ part) ok is ∙ (λ i. none i ++ same i)

-- what holds of all squares holds of them in another order
moved_all : (P : Square → Type 0) (xs ys : List Square) → IsPermutation xs ys → AllByRecursion P xs → AllByRecursion P ys
moved_all P xs ys moved all = recursion_from_All P ys (All-permutation P xs ys moved (All-from_recursion P xs all))

-- a square of them is one of the squares in the first order
all_members : (xs ys : List Square) → IsPermutation xs ys → (q : Square) → IsOneOf q ys → IsOneOf q xs
all_members xs ys moved q h =
    in_all (λ q. IsOneOf q xs) ys (moved_all (λ q. IsOneOf q xs) xs ys moved (all_from (λ q. IsOneOf q xs) xs (λ p k. k))) q h

module _ (t : Tiling) (kept : IsKept t) (squares : List Square) (moved : IsPermutation t.squares squares) where
  -- the squares of a kept tiling are accepted in any order
  pub moved_accepted : IsAccepted t.width t.height squares
  moved_accepted = record {
    few = omega (arith, kept.few, length_permutation t.squares squares moved);
    sides = moved_all (λ q. IsSide q.s) t.squares squares moved kept.sides;
    tiles = record {
      some = omega (arith, kept.tiling.tiles.some, length_permutation t.squares squares moved);
      sides = moved_all (λ q. 0 < q.s) t.squares squares moved kept.tiling.tiles.sides;
      within = moved_all (IsWithin (sized t.width t.height)) t.squares squares moved kept.tiling.tiles.within;
      once = λ i j left right top bottom.
          sum_by-IsPermutation (λ q. cond {A = ℕ} (covers i j q) 1 0) t.squares squares moved ∙ kept.tiling.tiles.once i j left right top bottom;
    };
  }

  from_moved : (q : Square) → IsOneOf q squares → IsOneOf q t.squares
  from_moved = all_members t.squares squares moved

  to_moved : (q : Square) → IsOneOf q t.squares → IsOneOf q squares
  to_moved = all_members squares t.squares (IsPermutation-sym t.squares squares moved)

  -- put in code order they are a tiling that is kept
  pub moved_kept : IsKept (tiling_of t.width t.height squares)
  moved_kept = kept_from t.width t.height squares (in_code_order squares) kept.width_fits kept.height_fits moved_accepted refl

  -- squares of a tiling in another order are, put in code order, the tiling again
  pub moved_back : in_code_order squares ≡ t.squares
  moved_back = same_members (in_code_order squares) t.squares moved_kept.tiling.ordered kept.tiling.ordered
      (λ q h. from_moved q (from_order squares q h)) (λ q h. in_order squares q (to_moved q h))

  -- a tiling whose squares are put in another order is, in code order, the tiling again
  pub moved_tiling : tiling_of t.width t.height squares ≡ t
  moved_tiling = λ i. record { width = t.width; height = t.height; squares = moved_back i }

-- what is stored of a tiling is what is kept of it
pub kept_by_sides : (t : Tiling) → IsKept t → (squares : List Square) → IsPermutation t.squares squares → AreSidesAscending squares
    → (width height : ℕ) → width ≡ t.width → height ≡ t.height → (apart : Bool) → apart ≡ stands_apart (tiling_of width height squares)
    → (small : ℕ) → small < 2 ^ 64 → AreSideBitsOf small squares → IsKeptBySides width height squares apart small
kept_by_sides t kept squares moved ascending width height wide high apart is small few sides = record {
  accepted = subst (λ (w : ℕ). IsAccepted w height squares) (sym wide)
      (subst (λ (h : ℕ). IsAccepted t.width h squares) (sym high) (moved_accepted t kept squares moved));
  width_fits = omega (arith, wide, kept.width_fits);
  height_fits = omega (arith, high, kept.height_fits);
  ascending = ascending;
  apart_is = is;
  small_fits = few;
  small_sides = sides;
}

-- squares in another order, with the tiling's size, make the tiling again
pub seen_as : (t : Tiling) → IsKept t → (squares : List Square) → IsPermutation t.squares squares → (width height : ℕ) → width ≡ t.width → height ≡ t.height
    → tiling_of width height squares ≡ t
seen_as t kept squares moved width height wide high =
    (λ i. tiling_of (wide i) (high i) squares) ∙ moved_tiling t kept squares moved

-- from what is stored the tiling is made again
module _ (width height : ℕ) (squares : List Square) (apart : Bool) (small : ℕ)
    (stored : IsKeptBySides width height squares apart small) where
  -- the stored squares have sides
  pub stored_sides : HaveSides squares
  stored_sides = All-from_recursion (λ (q : Square). IsSide q.s) squares stored.accepted.sides

  -- no two stored squares share a cell
  pub stored_apart : ShareNoCell squares
  stored_apart = tiles_apart width height squares stored.accepted.tiles

  -- the stored squares in code order make a tiling that is kept
  pub stored_squares_make_a_kept_tiling : (made : List Square) → made ≡ in_code_order squares
      → IsKept (record { width = width; height = height; squares = made })
  stored_squares_make_a_kept_tiling made is = kept_from width height squares made stored.width_fits stored.height_fits stored.accepted is
