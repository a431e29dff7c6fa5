-- The sides that occur twice, by the ascending list of all sides.
use Rattle.std.specs.List.Sorted.{IsNonDecreasing, IsPermutation}
use Rattle.std.specs.Prelude.{IfNone, IfSome, None, Option, Some, count_by, get_or, map}
use Rattle.std.proofs.Common.{List, [], ap, arith, cond, length, refl, subst, sym, ℕ, ◌++◌, ◌==◌, ◌∷◌, ◌≡◌}
use Rattle.std.proofs.lemmas.Bool.{eq-eqb}
use Rattle.std.proofs.lemmas.List.Sums.{sum_by-append, sum_by-cons}
use Rattle.bk_laws.proofs.Counts.{count_two}
use Rattle.bk_tiling.proofs.OrderLaws.{in_code_order-count}
use Rattle.bk_tiling.specs.Scale.{moved_square}
use Rattle.bk_tiling.specs.Tiling.{Tiling, sides_of}
use Rattle.bk_tiling.specs.declared.Square.{Square}
use Rattle.bk_sym.specs.Image.{image, image_square}
use Rattle.bk_sym.specs.declared.Turn.TheVariants.{Swap}
use Rattle.bk_simple.proofs.Repeats.{imperfect, least_from_first, perfect_from_none}
use Rattle.bk_simple.specs.Neighbours.{IsFirstTwice, NoneTwice}
use Rattle.bk_simple.specs.Simple.{IsLeastRepeated, IsPerfect, IsRepeated}
use Rattle.bk_pair.specs.Pair.{IsLeastShared, IsSharedSide, corner_squares, joined_square, laid_squares, pair_sides}

-- squares of these sides, wherever they stand
abbrev with_side : ℕ → Square
with_side s = record { x = 0; y = 0; s = s }

abbrev of_sides : List ℕ → Tiling
of_sides sides = record { width = 0; height = 0; squares = map with_side sides }

sides_of_sides : (sides : List ℕ) → sides_of (of_sides sides) ≡ sides
sides_of_sides [] = refl
sides_of_sides (s ∷ sides) = ap (λ (l : List ℕ). s ∷ l) (sides_of_sides sides)

count_of_sides : (side : ℕ) (sides : List ℕ) → count_by (λ q. q.s == side) (map with_side sides) ≡ count_by (λ s. s == side) sides
count_of_sides side [] = refl
count_of_sides side (s ∷ sides) =
    omega (
      arith,
      count_of_sides side sides,
      sum_by-cons (λ (q : Square). cond {A = ℕ} (q.s == side) 1 0) (with_side s) (map with_side sides),
      sum_by-cons (λ (n : ℕ). cond {A = ℕ} (n == side) 1 0) s sides,
    )

module _ (a b : Tiling) (sorted : List ℕ) (same : IsPermutation (pair_sides a b) sorted) (ascending : IsNonDecreasing sorted) where
  same_sides : IsPermutation (sides_of (of_sides (pair_sides a b))) sorted
  same_sides = subst (λ (l : List ℕ). IsPermutation l sorted) (sym (sides_of_sides (pair_sides a b))) same

  shared_repeated : (side : ℕ) → IsSharedSide a b side → IsRepeated (of_sides (pair_sides a b)) side
  shared_repeated side shared = omega (arith, shared, count_of_sides side (pair_sides a b))

  -- where no number of the sorted sides is followed by an equal one, no side is shared
  pub none_shared : NoneTwice sorted (length sorted) → (side : ℕ) → ¬ (IsSharedSide a b side)
  none_shared none side shared =
      imperfect (of_sides (pair_sides a b)) side (shared_repeated side shared) (perfect_from_none (of_sides (pair_sides a b)) sorted same_sides ascending none)

  -- the first number of the sorted sides that is followed by an equal one is the least shared side
  pub least_shared : (side : ℕ) → IsFirstTwice sorted side → IsLeastShared a b side
  least_shared side first =
      let least : IsLeastRepeated (of_sides (pair_sides a b)) side = least_from_first (of_sides (pair_sides a b)) sorted same_sides ascending side first in
      record {
        shared = omega (arith, least.0, count_of_sides side (pair_sides a b));
        least = λ other shared. least.1 other (shared_repeated other shared);
      }

  -- where no equal numbers are found among the sorted sides, no side is shared
  pub none_if : (r : Option ℕ) → IfNone r (NoneTwice sorted (length sorted)) → IfNone r ((side : ℕ) → ¬ (IsSharedSide a b side))
  none_if None none = none_shared none
  none_if (Some side) none = tt

  -- where equal numbers are found among the sorted sides, they are the least shared side
  pub some_if : (r : Option ℕ) → IfSome r (IsFirstTwice sorted) → IfSome r (IsLeastShared a b)
  some_if None first = tt
  some_if (Some side) first = least_shared side first

-- what moves or turns squares keeps the count of each side
count_kept : (f : Square → Square) → ((q : Square) → (f q).s ≡ q.s) → (side : ℕ) (squares : List Square)
    → count_by (λ q. q.s == side) (map f squares) ≡ count_by (λ q. q.s == side) squares
count_kept f keeps side [] = refl
count_kept f keeps side (q ∷ squares) = omega (
  arith,
  count_kept f keeps side squares,
  ap (λ (s : ℕ). cond {A = ℕ} (s == side) 1 0) (keeps q),
  sum_by-cons (λ (q : Square). cond {A = ℕ} (q.s == side) 1 0) (f q) (map f squares),
  sum_by-cons (λ (q : Square). cond {A = ℕ} (q.s == side) 1 0) q squares,
)

-- the sides of squares are counted as the squares are
pub count_sides : (side : ℕ) (squares : List Square) → count_by (λ s. s == side) (map (λ q. q.s) squares) ≡ count_by (λ q. q.s == side) squares
count_sides side [] = refl
count_sides side (q ∷ squares) =
    omega (
      arith,
      count_sides side squares,
      sum_by-cons (λ (n : ℕ). cond {A = ℕ} (n == side) 1 0) q.s (map (λ (q : Square). q.s) squares),
      sum_by-cons (λ (q : Square). cond {A = ℕ} (q.s == side) 1 0) q squares,
    )

-- the square that two tilings make has the sides of both, and their width and height
module _ (a b : Tiling) (side : ℕ) where
  has : Square → ℕ
  has q = cond {A = ℕ} (q.s == side) 1 0

  -- the joined square has each side as often as the sides of the pair
  pub count_joined : count_by (λ q. q.s == side) (joined_square a b).squares ≡ count_by (λ s. s == side) (pair_sides a b)
  unfolding has
  count_joined =
      let turned = (image Swap b).squares in
      let moved = map (moved_square a.width a.height) turned in
      omega (
        arith,
        in_code_order-count (λ q. q.s == side) (laid_squares a b),
        sum_by-append has a.squares (corner_squares a ++ moved),
        sum_by-append has (corner_squares a) moved,
        count_kept (moved_square a.width a.height) (λ q. refl) side turned,
        in_code_order-count (λ q. q.s == side) (map (image_square Swap b.width b.height) b.squares),
        count_kept (image_square Swap b.width b.height) (λ q. refl) side b.squares,
        count_sides side a.squares,
        count_sides side b.squares,
        sum_by-append (λ (n : ℕ). cond {A = ℕ} (n == side) 1 0) (sides_of a) (sides_of b ++ a.width ∷ a.height ∷ []),
        sum_by-append (λ (n : ℕ). cond {A = ℕ} (n == side) 1 0) (sides_of b) (a.width ∷ a.height ∷ []),
        sum_by-cons has (record { x = a.width; y = 0; s = a.height }) (record { x = 0; y = a.height; s = a.width } ∷ []),
        sum_by-cons has (record { x = 0; y = a.height; s = a.width }) [],
        sum_by-cons (λ (n : ℕ). cond {A = ℕ} (n == side) 1 0) a.width (a.height ∷ []),
        sum_by-cons (λ (n : ℕ). cond {A = ℕ} (n == side) 1 0) a.height [],
      )

-- where no side occurs twice, it is perfect
pub perfect_square : (a b : Tiling) → ((side : ℕ) → ¬ (IsSharedSide a b side)) → IsPerfect (joined_square a b)
perfect_square a b none i j d before below e =
    let squares = (joined_square a b).squares in
    let side : ℕ = (get_or squares i d).s in
    none side (omega (
      arith,
      count_joined a b side,
      count_two (λ q. q.s == side) squares i j d before below (eq-eqb side side refl) (eq-eqb (get_or squares j d).s side (sym e)),
    ))
