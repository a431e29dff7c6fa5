-- The squares of a tiling under the leftmost valley, laid, fill their columns from the top again.
use Rattle.std.proofs.Common.{List, [], arith, count_by, inl, inr, length, true, ℕ, ◌++◌, ◌+◌, ◌<◌, ◌∷◌, ◌≡◌, ◌≤◌, ◌⊎◌}
use Rattle.std.proofs.lemmas.Bool.{cases_lt}
use Rattle.std.proofs.lemmas.List.Sums.{sum_by-append}
use Rattle.bk_tiling.proofs.Cells.{all_from, column_left, column_right, count-filter, counted_one, covers_from, depth_comes_from, depth_reaches, from_append}
use Rattle.bk_tiling.proofs.Cells.{from_filter, in_filter, none_counted, one_counted, over_from}
use Rattle.bk_tiling.proofs.TilingLaws.{within_of}
use Rattle.bk_tiling.specs.Column.{IsLevel, covers_column, depth}
use Rattle.bk_tiling.specs.declared.Segment.{Segment}
use Rattle.bk_tiling.specs.Tiling.{IsOneOf, IsTiling, Tiling, covers}
use Rattle.bk_tiling.specs.declared.Square.{Square}
use Rattle.bk_lay.specs.Depiction.{FillsFromTop}
use Rattle.bk_lay.specs.TilingWord.{IsLeftmostValley, hangs_under, squares_under}
use Rattle.bk_lay.specs.WordLaws.{ValleyIsFilled}
use Rattle.bk_lay.proofs.UnderValley.{IsUnder, cell, hangs, laid_in, laid_square_ends_by_the_depth, under_from}

module _ (t : Tiling) (laid : List Square) (v : Segment) (tiling : IsTiling t) (fills : FillsFromTop t laid) (found : IsLeftmostValley t.width laid v)
    (low : v.level < t.height) where
  level_there : IsLevel t.width laid v
  level_there = (found.valley).flat

  -- one of them hangs at the valley's first column
  pub first_under : (q : Square) × IsOneOf q (squares_under t v)
  first_under = (
    there.0,
    in_filter (hangs_under v) t.squares there.0 there.1
        (hangs t laid v tiling fills found low v.x there.0 (omega arith) (let a = level_there.some in omega arith) there.1 there.2),
  )
    where
      there : (q : Square) × IsOneOf q t.squares × (covers v.x v.level q ≡ true)
      there = counted_one (covers v.x v.level) t.squares
          (omega (arith, cell t laid v tiling fills found low v.x v.level (let a = level_there.some in let b = level_there.within in omega arith) low))

  some_under : (squares : List Square) (q : Square) → IsOneOf q squares → 0 < length squares
  some_under [] q h = absurd h
  some_under (r ∷ squares) q h = omega arith

  -- the squares under the valley are squares of the tiling
  pub in_tiling : (q : Square) → IsOneOf q (squares_under t v) → IsOneOf q t.squares
  in_tiling q h = (from_filter (hangs_under v) t.squares q h).0

  -- a square laid under the valley hangs from its level, within its columns
  pub is_under : (q : Square) → IsOneOf q (squares_under t v) → IsUnder v q
  is_under q h = under_from v q (from_filter (hangs_under v) t.squares q h).1

  -- over a cell above the new depth there is one square of those laid then
  filled : (c j : ℕ) → c < t.width → j < depth (laid ++ squares_under t v) c → count_by (covers c j) (laid ++ squares_under t v) ≡ 1
  filled c j wide deep = cases (cases_lt j (depth laid c))
    where
      split : count_by (covers c j) (laid ++ squares_under t v) ≡ count_by (covers c j) laid + count_by (covers c j) (squares_under t v)
      split = sum_by-append _ laid (squares_under t v)

      -- an old cell: none of the new squares lies over it
      none_new : j < depth laid c → (q : Square) → IsOneOf q (squares_under t v) → covers c j q ≡ true → ⊥
      none_new k q h e = let u = is_under q h in let over = over_from c j q e in let a = u.level in let b = u.left in let d = u.right in
          let l = over.left in let r = over.right in let top = over.top in
          omega (arith, level_there.level c (omega arith) (omega arith))

      -- a new cell: none of the old ones does
      none_old : depth laid c ≤ j → (q : Square) → IsOneOf q laid → covers c j q ≡ true → ⊥
      none_old k q h e = let over = over_from c j q e in let l = over.left in let r = over.right in let b = over.bottom in
          omega (arith, laid_square_ends_by_the_depth t laid v tiling fills found low c q h l r)

      -- a new cell is covered by one of the new squares
      one_new : depth laid c ≤ j → count_by (covers c j) (squares_under t v) ≡ 1
      one_new k = from (depth_comes_from (laid ++ squares_under t v) c j deep)
        where
          least : (n : ℕ) → 0 < n → n ≤ 1 → n ≡ 1
          least n a b = omega arith

          from : ((q : Square) × IsOneOf q (laid ++ squares_under t v) × (covers_column c q ≡ true) × (j < q.y + q.s))
              → count_by (covers c j) (squares_under t v) ≡ 1
          from there = sides (from_append laid (squares_under t v) there.0 there.1)
            where
              q : Square
              q = there.0

              sides : IsOneOf there.0 laid ⊎ IsOneOf there.0 (squares_under t v) → count_by (covers c j) (squares_under t v) ≡ 1
              sides (inl h) = absurd (omega (arith, depth_reaches laid c there.0 h there.2, there.3))
              sides (inr h) = let u = is_under there.0 h in let a = u.level in let b = u.left in let d = u.right in
                  let l = column_left c there.0 there.2 in let r = column_right c there.0 there.2 in
                  let here : v.level ≤ j = omega (arith, level_there.level c (omega arith) (omega arith)) in
                  let e : covers c j there.0 ≡ true = covers_from c j there.0 l r (omega arith) there.3 in
                  let w = (within_of t tiling there.0 (in_tiling there.0 h)).bottom in
                  least (count_by (covers c j) (squares_under t v)) (one_counted (covers c j) (squares_under t v) there.0 h e)
                  (omega (arith, count-filter (covers c j) (hangs_under v) t.squares, cell t laid v tiling fills found low c j wide (omega (arith, there.3))))

      cases : (j < depth laid c) ⊎ (depth laid c ≤ j) → count_by (covers c j) (laid ++ squares_under t v) ≡ 1
      cases (inl k) = omega (arith, split, fills.filled c j wide k, none_counted (covers c j) (squares_under t v) (none_new k))
      cases (inr k) = omega (arith, split, one_new k, none_counted (covers c j) laid (none_old k))

  goes_on : FillsFromTop t (laid ++ squares_under t v)
  goes_on = record {
    squares = all_from (λ q. IsOneOf q t.squares) (laid ++ squares_under t v)
        (λ q h. both q (from_append laid (squares_under t v) q h));
    filled = filled;
  }
    where
      both : (q : Square) → IsOneOf q laid ⊎ IsOneOf q (squares_under t v) → IsOneOf q t.squares
      both q (inl h) = laid_in t laid v tiling fills found low q h
      both q (inr h) = in_tiling q h

-- the squares under the leftmost valley fill its columns, and what is laid with them fills the tiling from the top
pub valley_is_filled : ValleyIsFilled
valley_is_filled t laid v tiling fills found low =
    (some_under t laid v tiling fills found low (squares_under t v) there.0 there.1, goes_on t laid v tiling fills found low)
  where
    there : (q : Square) × IsOneOf q (squares_under t v)
    there = first_under t laid v tiling fills found low
