-- The squares of a tiling in another order: they tile it, and put in the order of a code they are the tiling's.
use Rattle.std.proofs.Common.{Bool, List, Some, [], ap, arith, cond, count_by, inl, inr, length, map, refl, slice_get, subst, suc, sym, true, zero}
use Rattle.std.proofs.Common.{ℕ, ◌+◌, ◌<◌, ◌∙◌, ◌∷◌, ◌≡◌, ◌≤◌}
use Rattle.std.proofs.lemmas.Option.{get_or_from_slice_get}
use Rattle.bk_tiling.proofs.Cells.{all_from, count-cons, counted_one, covers_from, one_counted, over_from}
use Rattle.bk_tiling.proofs.PuttingInOrder.{from_order, in_order, ordered}
use Rattle.bk_tiling.proofs.Scaling.{same_members}
use Rattle.bk_tiling.proofs.TilingLaws.{side_of, within_of}
use Rattle.bk_tiling.specs.CodeOrder.{in_code_order}
use Rattle.bk_tiling.specs.Tiling.{IsOneOf, IsTiling, IsWithin, Tiles, Tiling, covers, square_of, whole}
use Rattle.bk_tiling.specs.declared.Square.{Square}
use Rattle.bk_word.specs.Play.{numbers_from}
use Rattle.bk_layout.proofs.TilingLayouts.Edges.{IsOn, meet}
use Rattle.bk_layout.proofs.TilingLayouts.TilingSquares.{in_square}
use Rattle.bk_layout.proofs.Lists.NumberedLists.{numbers_length}
use Rattle.bk_layout.proofs.Lists.Totals.{renumbered, total_from}

count_numbers : (p : Square → Bool) (f : ℕ → Square) (b n : ℕ) → count_by p (map f (numbers_from b n)) ≡ total_from (λ k. cond {A = ℕ} (p (f k)) 1 0) b n
count_numbers p f b zero = refl
count_numbers p f b (suc n) = omega (arith, count-cons p (f b) (map f (numbers_from (b + 1) n)), count_numbers p f (b + 1) n)

count_squares : (p : Square → Bool) (f : ℕ → Square) (b : ℕ) (squares : List Square)
    → ((k : ℕ) (q : Square) → slice_get squares k ≡ Some q → f (b + k) ≡ q)
    → count_by p squares ≡ total_from (λ k. cond {A = ℕ} (p (f k)) 1 0) b (length squares)
count_squares p f b [] each = refl
count_squares p f b (q ∷ squares) each = omega (
  arith,
  count-cons p q squares,
  ap (λ (r : Square). cond {A = ℕ} (p r) 1 0) here,
  count_squares p f (b + 1) squares (λ k r e. ap f (next k) ∙ each (suc k) r e),
)
  where
    here : f b ≡ q
    here = ap f (omega arith) ∙ each 0 q refl

    next : (k : ℕ) → b + 1 + k ≡ b + suc k
    next k = omega arith

-- a square of the list is that of one of the numbers
pub number_in : (f : ℕ → Square) (b n : ℕ) (q : Square) → IsOneOf q (map f (numbers_from b n)) → (k : ℕ) × (k < b + n) × (f k ≡ q)
number_in f b zero q h = absurd h
number_in f b (suc n) q (inl e) = (b, omega arith, sym e)
number_in f b (suc n) q (inr h) = let k = number_in f (b + 1) n q h in (k.0, omega (arith, k.1), k.2)

module _ (t : Tiling) (tiling : IsTiling t) (square : ℕ → ℕ) (below : (k : ℕ) → k < length t.squares → square k < length t.squares)
    (apart : (j k : ℕ) → j < length t.squares → k < length t.squares → square j ≡ square k → j ≡ k) where
  -- the squares of the tiling in the other order
  abbrev pub other : List Square
  other = map (λ k. square_of t (square k)) (numbers_from 0 (length t.squares))

  -- as many of them pass a test
  counts : (p : Square → Bool) → count_by p other ≡ count_by p t.squares
  counts p = count_numbers p (λ k. square_of t (square k)) 0 (length t.squares)
      ∙ renumbered (length t.squares) square below apart (λ k. cond {A = ℕ} (p (square_of t k)) 1 0)
      ∙ sym (count_squares p (square_of t) 0 t.squares
      (λ k q e. ap (square_of t) (from_zero k) ∙ get_or_from_slice_get t.squares k q (record { x = 0; y = 0; s = 0 }) e))
    where
      from_zero : (k : ℕ) → 0 + k ≡ k
      from_zero k = omega arith

  -- each of them is one of the tiling
  pub of_other : (q : Square) → IsOneOf q other → IsOneOf q t.squares
  of_other q h = from (number_in (λ k. square_of t (square k)) 0 (length t.squares) q h)
    where
      from : (k : ℕ) × (k < 0 + length t.squares) × (square_of t (square k) ≡ q) → IsOneOf q t.squares
      from (k, low, e) = subst (λ (r : Square). IsOneOf r t.squares) e (in_square t tiling (square k) (below k (omega (arith, low))))

  on : (i j : ℕ) (q : Square) → covers i j q ≡ true → IsOn i j q
  on i j q e = let o = over_from i j q e in record { left = o.left; right = o.right; top = o.top; bottom = o.bottom }

  first_cell : (q : Square) → IsOneOf q t.squares → covers q.x q.y q ≡ true
  first_cell q h = covers_from q.x q.y q (omega arith) (omega (arith, side_of t tiling q h)) (omega arith) (omega (arith, side_of t tiling q h))

  -- each square of the tiling is one of the others
  pub in_other : (q : Square) → IsOneOf q t.squares → IsOneOf q other
  in_other q h = from (counted_one (covers q.x q.y) other (omega (arith, counts (covers q.x q.y), one_counted (covers q.x q.y) t.squares q h (first_cell q h))))
    where
      from : (r : Square) × IsOneOf r other × (covers q.x q.y r ≡ true) → IsOneOf q other
      from (r, k, e) = subst (λ (z : Square). IsOneOf z other) (meet t tiling q.x q.y r q (of_other r k) h (on q.x q.y r e) (on q.x q.y q (first_cell q h))) k

  -- no two lie over one cell
  once : (q : Square) → IsOneOf q other → count_by (covers q.x q.y) other ≤ 1
  once q h = omega (
    arith,
    counts (covers q.x q.y),
    tiling.tiles.once q.x q.y (omega arith) (omega (arith, (within_of t tiling q (of_other q h)).right, side_of t tiling q (of_other q h)))
        (omega arith) (omega (arith, (within_of t tiling q (of_other q h)).bottom, side_of t tiling q (of_other q h))),
  )

  -- put in the order of a code they are the tiling's squares
  pub other_in_order : in_code_order other ≡ t.squares
  other_in_order = same_members (in_code_order other) t.squares (ordered other (λ q h. side_of t tiling q (of_other q h)) once)
      tiling.ordered (λ q h. of_other q (from_order other q h)) (λ q h. in_order other q (in_other q h))

  -- squares that are the tiling's, put in the order of a code, tile the whole rectangle
  pub other_tiles : Tiles (whole t) other
  other_tiles = record {
    some = omega (arith, tiling.tiles.some, numbers_length {A = Square} (λ k. square_of t (square k)) 0 (length t.squares));
    sides = all_from (λ q. 0 < q.s) other (λ q h. side_of t tiling q (of_other q h));
    within = all_from (λ q. IsWithin (whole t) q) other (λ q h. within_of t tiling q (of_other q h));
    once = λ i j a b c d. counts (covers i j) ∙ tiling.tiles.once i j a b c d;
  }
