-- A list of squares is refused in one way, or it is accepted.
use Rattle.std.specs.List.{AllByRecursion}
use Rattle.std.specs.Prelude.{All, slice_index_or}
use Rattle.std.proofs.Common.{List, [], ap, arith, count_by, false, inl, inr, length, refl, subst, sym, true, ℕ, ◌<◌, ◌^◌, ◌∙◌, ◌∷◌, ◌≡◌, ◌⊎◌}
use Rattle.std.proofs.lemmas.List.Elements.{All-from_recursion, recursion_from_All}
use Rattle.bk_laws.proofs.NumberOrder.{lt_or_gt_or_eq}
use Rattle.bk_tiling.proofs.Cells.{in_all, over_from}
use Rattle.bk_tiling.proofs.Members.{one_at}
use Rattle.bk_tiling.proofs.OrderLaws.{in_code_order-all, in_code_order-count, in_code_order-length}
use Rattle.bk_tiling.proofs.PuttingInOrder.{ordered}
use Rattle.bk_tiling.proofs.Refusing.{at_most_one, counted_twice, share_read}
use Rattle.bk_tiling.specs.CodeOrder.{in_code_order}
use Rattle.bk_tiling.specs.KeptTiling.{IsKept, IsSide}
use Rattle.bk_tiling.specs.Refusal.{AreWithin, HasCells, HaveSides, IsAccepted, IsFew, IsFirstOverlap, IsFirstPlace, IsFirstUncovered, IsRefusal}
use Rattle.bk_tiling.specs.Refusal.{ShareNoCell, sized}
use Rattle.bk_tiling.specs.Tiling.{IsOneOf, IsWithin, Tiles, covers}
use Rattle.bk_tiling.specs.declared.NotTiling.TheVariants.{Empty, Many, Outside, Overlap, Side, Uncovered}
use Rattle.bk_tiling.specs.declared.NotTiling.{NotTiling}
use Rattle.bk_tiling.specs.declared.Square.{Square}

any_square : Square
any_square = record { x = 0; y = 0; s = 0 }

-- what passes a test at each place fails it at no first one
not_first : (P : Square → Type 0) (squares : List Square) (i : ℕ) → All P squares → ¬ (IsFirstPlace (λ q. ¬ (P q)) squares i)
not_first P squares i all first = first.here any_square (all i any_square first.below)

no_overlap : (squares : List Square) (i j : ℕ) → ShareNoCell squares → ¬ (IsFirstOverlap squares i j)
no_overlap squares i j apart first = apart i j any_square first.ascending first.below (share_read squares i j any_square first.here)

module _ (width height : ℕ) (squares : List Square) where
  no_cells : HasCells width height → ¬ ((width ≡ 0) ⊎ (height ≡ 0))
  no_cells some (inl e) = omega (arith, some.0)
  no_cells some (inr e) = omega (arith, some.1)

  -- squares that tile a rectangle pass each test
  pub tiles_cells : Tiles (sized width height) squares → HasCells width height
  tiles_cells tiles =
      let first = in_all (IsWithin (sized width height)) squares tiles.within (slice_index_or squares 0 any_square) (one_at squares 0 any_square tiles.some) in
      let right = first.right in
      let bottom = first.bottom in
      let side = in_all (λ q. 0 < q.s) squares tiles.sides (slice_index_or squares 0 any_square) (one_at squares 0 any_square tiles.some) in
      (omega arith, omega arith)

  -- squares that tile the rectangle lie within it
  pub tiles_within : Tiles (sized width height) squares → AreWithin width height squares
  tiles_within tiles = All-from_recursion (IsWithin (sized width height)) squares tiles.within

  -- no two squares that tile the rectangle share a cell
  pub tiles_apart : Tiles (sized width height) squares → ShareNoCell squares
  tiles_apart tiles a b d up below shares =
      let over = over_from shares.column shares.level (slice_index_or squares a d) shares.in_first in
      let inside = tiles_within tiles a d (omega arith) in
      let right = inside.right in
      let bottom = inside.bottom in
      let wide : shares.column < width = omega (arith, over.right) in
      let low : shares.level < height = omega (arith, over.bottom) in
      omega (
        arith,
        counted_twice squares shares.column shares.level a b d up below shares.in_first shares.in_second,
        tiles.once shares.column shares.level (omega arith) (omega arith) (omega arith) (omega arith),
      )

  -- squares that pass each test tile the rectangle
  pub tiles_from : HasCells width height → HaveSides squares → AreWithin width height squares → ShareNoCell squares
      → ((i j : ℕ) → i < width → j < height → 0 < count_by (covers i j) squares) → Tiles (sized width height) squares
  tiles_from cells sides within apart covered = record {
    some = some squares (covered 0 0 cells.0 cells.1);
    sides = positive squares (recursion_from_All (λ q. IsSide q.s) squares sides);
    within = recursion_from_All (IsWithin (sized width height)) squares within;
    once = λ i j left right top bottom. omega (arith, at_most_one squares apart i j, covered i j (omega arith) (omega arith));
  }
    where
      some : (squares : List Square) → 0 < count_by (covers 0 0) squares → 0 < length squares
      some [] h = absurd (omega arith)
      some (q ∷ squares) h = omega arith

      positive : (squares : List Square) → AllByRecursion (λ q. IsSide q.s) squares → AllByRecursion (λ q. 0 < q.s) squares
      positive [] sides = tt
      positive (q ∷ squares) sides = (sides.0.0, positive squares sides.1)

  -- squares that pass each test, and of which some square covers each cell, are accepted
  pub accepted_from : IsFew squares → HasCells width height → HaveSides squares → AreWithin width height squares → ShareNoCell squares
      → ((i j : ℕ) → i < width → j < height → 0 < count_by (covers i j) squares) → IsAccepted width height squares
  accepted_from few cells sides within apart covered =
      record { few = few; sides = recursion_from_All (λ q. IsSide q.s) squares sides; tiles = tiles_from cells sides within apart covered }

  -- no list is refused and accepted
  pub refused_or_accepted : (r : NotTiling) → IsRefusal width height squares r → ¬ (IsAccepted width height squares)
  refused_or_accepted (Many n) refusal accepted = omega (arith, refusal.0, accepted.few)
  refused_or_accepted Empty refusal accepted = no_cells (tiles_cells accepted.tiles) refusal.1
  refused_or_accepted (Side i) refusal accepted = not_first (λ q. IsSide q.s) squares i (All-from_recursion (λ q. IsSide q.s) squares accepted.sides) refusal.2
  refused_or_accepted (Outside i) refusal accepted = not_first (IsWithin (sized width height)) squares i (tiles_within accepted.tiles) refusal.3
  refused_or_accepted (Overlap i j) refusal accepted = no_overlap squares i j (tiles_apart accepted.tiles) refusal.4
  refused_or_accepted (Uncovered x y) refusal accepted =
      let free = refusal.5 in
      let wide = free.column in
      let low = free.level in
      omega (arith, free.free, (accepted.tiles).once x y (omega arith) (omega arith) (omega arith) (omega arith))

  -- what a contract says of a refusal
  pub only_refused : (r : NotTiling) → IsRefusal width height squares r
      → (false ≡ true → IsAccepted width height squares) × (IsAccepted width height squares → false ≡ true)
  only_refused r refusal = (λ e. absurd (cc), λ accepted. absurd (refused_or_accepted r refusal accepted))

-- there is one first place, one first overlap and one first uncovered cell
one_first_place : (P : Square → Type 0) (squares : List Square) (i k : ℕ) → IsFirstPlace P squares i → IsFirstPlace P squares k → i ≡ k
one_first_place P squares i k a b = cases (lt_or_gt_or_eq i k)
  where
    cases : (i < k) ⊎ (k < i) ⊎ (i ≡ k) → i ≡ k
    cases (inl l) = absurd (b.before i l any_square (a.here any_square))
    cases (inr (inl l)) = absurd (a.before k l any_square (b.here any_square))
    cases (inr (inr e)) = e

one_first_overlap : (squares : List Square) (i j k l : ℕ) → IsFirstOverlap squares i j → IsFirstOverlap squares k l → (i ≡ k) × (j ≡ l)
one_first_overlap squares i j k l a b = cases (lt_or_gt_or_eq i k) (lt_or_gt_or_eq j l)
  where
    cases : (i < k) ⊎ (k < i) ⊎ (i ≡ k) → (j < l) ⊎ (l < j) ⊎ (j ≡ l) → (i ≡ k) × (j ≡ l)
    cases (inl h) f = absurd (b.before i j a.ascending (inl h) a.here)
    cases (inr (inl h)) f = absurd (a.before k l b.ascending (inl h) b.here)
    cases (inr (inr e)) (inl h) = absurd (b.before i j a.ascending (inr (e, h)) a.here)
    cases (inr (inr e)) (inr (inl h)) = absurd (a.before k l b.ascending (inr (sym e, h)) b.here)
    cases (inr (inr e)) (inr (inr f)) = (e, f)

one_first_uncovered : (width height : ℕ) (squares : List Square) (x y u v : ℕ) → IsFirstUncovered width height squares x y
    → IsFirstUncovered width height squares u v → (x ≡ u) × (y ≡ v)
one_first_uncovered width height squares x y u v a b = cases (lt_or_gt_or_eq x u) (lt_or_gt_or_eq y v)
  where
    same_level : (i j k : ℕ) → j ≡ k → count_by (covers i j) squares ≡ count_by (covers i k) squares
    same_level i j k e = ap (λ (m : ℕ). count_by (covers i m) squares) e

    cases : (x < u) ⊎ (u < x) ⊎ (x ≡ u) → (y < v) ⊎ (v < y) ⊎ (y ≡ v) → (x ≡ u) × (y ≡ v)
    cases e (inl h) = absurd (omega (arith, a.free, b.above x y a.column h))
    cases e (inr (inl h)) = absurd (omega (arith, b.free, a.above u v b.column h))
    cases (inl h) (inr (inr f)) = absurd (omega (arith, a.free, b.left x h, same_level x y v f))
    cases (inr (inl h)) (inr (inr f)) = absurd (omega (arith, b.free, a.left u h, same_level u y v f))
    cases (inr (inr e)) (inr (inr f)) = (e, f)

module _ (width height : ℕ) (squares : List Square) where
  -- each refusal says that the tests before its own are passed
  pub refused_once : (a b : NotTiling) → IsRefusal width height squares a → IsRefusal width height squares b → a ≡ b
  refused_once (Many n) (Many m) r s = ap Many (r.1 ∙ sym s.1)
  refused_once (Many n) Empty r s = absurd (omega (arith, r.0, s.0))
  refused_once (Many n) (Side k) r s = absurd (omega (arith, r.0, s.0))
  refused_once (Many n) (Outside k) r s = absurd (omega (arith, r.0, s.0))
  refused_once (Many n) (Overlap k l) r s = absurd (omega (arith, r.0, s.0))
  refused_once (Many n) (Uncovered u v) r s = absurd (omega (arith, r.0, s.0))
  refused_once Empty (Many m) r s = absurd (omega (arith, s.0, r.0))
  refused_once Empty Empty r s = refl
  refused_once Empty (Side k) r s = absurd (no_cells width height squares s.1 r.1)
  refused_once Empty (Outside k) r s = absurd (no_cells width height squares s.1 r.1)
  refused_once Empty (Overlap k l) r s = absurd (no_cells width height squares s.1 r.1)
  refused_once Empty (Uncovered u v) r s = absurd (no_cells width height squares s.1 r.1)
  refused_once (Side i) (Many m) r s = absurd (omega (arith, s.0, r.0))
  refused_once (Side i) Empty r s = absurd (no_cells width height squares r.1 s.1)
  refused_once (Side i) (Side k) r s = ap Side (one_first_place (λ q. ¬ (IsSide q.s)) squares i k r.2 s.2)
  refused_once (Side i) (Outside k) r s = absurd (not_first (λ q. IsSide q.s) squares i s.2 r.2)
  refused_once (Side i) (Overlap k l) r s = absurd (not_first (λ q. IsSide q.s) squares i s.2 r.2)
  refused_once (Side i) (Uncovered u v) r s = absurd (not_first (λ q. IsSide q.s) squares i s.2 r.2)
  refused_once (Outside i) (Many m) r s = absurd (omega (arith, s.0, r.0))
  refused_once (Outside i) Empty r s = absurd (no_cells width height squares r.1 s.1)
  refused_once (Outside i) (Side k) r s = absurd (not_first (λ q. IsSide q.s) squares k r.2 s.2)
  refused_once (Outside i) (Outside k) r s = ap Outside (one_first_place (λ q. ¬ (IsWithin (sized width height) q)) squares i k r.3 s.3)
  refused_once (Outside i) (Overlap k l) r s = absurd (not_first (IsWithin (sized width height)) squares i s.3 r.3)
  refused_once (Outside i) (Uncovered u v) r s = absurd (not_first (IsWithin (sized width height)) squares i s.3 r.3)
  refused_once (Overlap i j) (Many m) r s = absurd (omega (arith, s.0, r.0))
  refused_once (Overlap i j) Empty r s = absurd (no_cells width height squares r.1 s.1)
  refused_once (Overlap i j) (Side k) r s = absurd (not_first (λ q. IsSide q.s) squares k r.2 s.2)
  refused_once (Overlap i j) (Outside k) r s = absurd (not_first (IsWithin (sized width height)) squares k r.3 s.3)
  refused_once (Overlap i j) (Overlap k l) r s = let same = one_first_overlap squares i j k l r.4 s.4 in λ z. Overlap (same.0 z) (same.1 z)
  refused_once (Overlap i j) (Uncovered u v) r s = absurd (no_overlap squares i j s.4 r.4)
  refused_once (Uncovered x y) (Many m) r s = absurd (omega (arith, s.0, r.0))
  refused_once (Uncovered x y) Empty r s = absurd (no_cells width height squares r.1 s.1)
  refused_once (Uncovered x y) (Side k) r s = absurd (not_first (λ q. IsSide q.s) squares k r.2 s.2)
  refused_once (Uncovered x y) (Outside k) r s = absurd (not_first (IsWithin (sized width height)) squares k r.3 s.3)
  refused_once (Uncovered x y) (Overlap k l) r s = absurd (no_overlap squares k l r.4 s.4)
  refused_once (Uncovered x y) (Uncovered u v) r s = let same = one_first_uncovered width height squares x y u v r.5 s.5 in λ z. Uncovered (same.0 z) (same.1 z)

-- what is accepted and put in order is what a `Tiling` keeps
pub kept_from : (width height : ℕ) (squares kept : List Square) → width < 2 ^ 64 → height < 2 ^ 64 → IsAccepted width height squares
    → kept ≡ in_code_order squares
    → IsKept (record { width = width; height = height; squares = kept })
kept_from width height squares kept wide high accepted same =
    subst (λ (l : List Square). IsKept (record { width = width; height = height; squares = l })) (sym same) (record {
      tiling = record {
        tiles = record {
          some = omega (arith, in_code_order-length squares, (accepted.tiles).some);
          sides = in_code_order-all (λ q. 0 < q.s) squares (accepted.tiles).sides;
          within = in_code_order-all (IsWithin (sized width height)) squares (accepted.tiles).within;
          once = λ i j left right top bottom. in_code_order-count (covers i j) squares ∙ (accepted.tiles).once i j left right top bottom;
        };
        ordered = ordered squares some (λ q h. at_most_one squares (tiles_apart width height squares accepted.tiles) q.x q.y);
      };
      few = omega (arith, in_code_order-length squares, accepted.few);
      sides = in_code_order-all (λ q. IsSide q.s) squares accepted.sides;
      width_fits = wide;
      height_fits = high;
    })
  where
    some : (q : Square) → IsOneOf q squares → 0 < q.s
    some q h = in_all (λ q. 0 < q.s) squares (accepted.tiles).sides q h
