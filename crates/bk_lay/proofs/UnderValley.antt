-- What is laid, and what hangs under the leftmost valley, of the squares of a tiling.
use Rattle.std.proofs.Common.{List, arith, count_by, inl, inr, subst, suc, sym, true, ℕ, ◌+◌, ◌-◌, ◌<◌, ◌≡◌, ◌≤◌, ◌⊎◌}
use Rattle.std.proofs.lemmas.Bool.Decides.{nat_tests}
use Rattle.bk_laws.proofs.NumberOrder.{le-same_or_less, le_or_gt}
use Rattle.bk_tiling.proofs.Cells.{IsOver, column_from, counted_one, covers_from, depth_reaches, in_all, no_two, over_from}
use Rattle.bk_tiling.proofs.TilingLaws.{within_of}
use Rattle.bk_tiling.specs.Column.{IsLevel, depth}
use Rattle.bk_tiling.specs.declared.Segment.{Segment}
use Rattle.bk_tiling.specs.Tiling.{IsOneOf, IsTiling, Tiling, covers}
use Rattle.bk_tiling.specs.declared.Square.{Square}
use Rattle.bk_lay.specs.Depiction.{FillsFromTop}
use Rattle.bk_lay.specs.TilingWord.{IsLeftmostValley, hangs_under}

-- the square hangs at the valley's level and within its columns
pub record IsUnder (v : Segment) (q : Square) : Type 0 where
  pub level : q.y ≡ v.level
  pub left : v.x ≤ q.x
  pub right : q.x + q.s ≤ v.x + v.width

-- a square that the test finds hangs from the valley's level and within its columns
pub under_from : (v : Segment) (q : Square) → hangs_under v q ≡ true → IsUnder v q
under_from v q e = record { level = grind (arith, nat_tests); left = grind (arith, nat_tests); right = grind (arith, nat_tests) }

-- a square that hangs from the valley's level, within its columns, passes the test
pub hangs_from : (v : Segment) (q : Square) → q.y ≡ v.level → v.x ≤ q.x → q.x + q.s ≤ v.x + v.width → hangs_under v q ≡ true
hangs_from v q a b c = grind (arith, nat_tests)

module _ (t : Tiling) (laid : List Square) (v : Segment) (tiling : IsTiling t) (fills : FillsFromTop t laid) (found : IsLeftmostValley t.width laid v)
    (low : v.level < t.height) where
  -- each cell of the tiling lies in one square
  pub cell : (c j : ℕ) → c < t.width → j < t.height → count_by (covers c j) t.squares ≡ 1
  cell c j a b = (tiling.tiles).once c j (omega arith) (omega arith) (omega arith) (omega arith)

  -- what is laid is of the tiling
  pub laid_in : (q : Square) → IsOneOf q laid → IsOneOf q t.squares
  laid_in q h = in_all (λ p. IsOneOf p t.squares) laid fills.squares q h

  -- a square of the tiling over a cell above the depth of its column is laid
  pub is_laid : (c j : ℕ) (q : Square) → c < t.width → j < depth laid c → IsOneOf q t.squares → covers c j q ≡ true → IsOneOf q laid
  is_laid c j q wide deep h e = subst (λ (p : Square). IsOneOf p laid) (sym same) there.1
    where
      there : (p : Square) × IsOneOf p laid × (covers c j p ≡ true)
      there = counted_one (covers c j) laid (omega (arith, fills.filled c j wide deep))

      in_rectangle : j < t.height
      in_rectangle = let w = within_of t tiling q h in let bottom = w.bottom in let over = over_from c j q e in let b = over.bottom in omega arith

      same : q ≡ there.0
      same = no_two (covers c j) t.squares (omega (arith, cell c j wide in_rectangle)) q there.0 h e (laid_in there.0 there.1) there.2

  -- a laid square over a column ends at its depth or above
  pub laid_square_ends_by_the_depth : (c : ℕ) (q : Square) → IsOneOf q laid → q.x ≤ c → c < q.x + q.s → q.y + q.s ≤ depth laid c
  laid_square_ends_by_the_depth c q h a b = depth_reaches laid c q h (column_from c q a b)

  -- the leftmost valley is level
  pub flat : IsLevel t.width laid v
  flat = (found.valley).flat

  -- the square of the tiling below the valley at one of its columns hangs under it
  pub hangs : (c : ℕ) (q : Square) → v.x ≤ c → c < v.x + v.width → IsOneOf q t.squares → covers c v.level q ≡ true → hangs_under v q ≡ true
  hangs c q lo hi h e = hangs_from v q level left right
    where
      over : IsOver c v.level q
      over = over_from c v.level q e

      wide : c < t.width
      wide = let a = flat.within in omega arith

      deep : depth laid c ≡ v.level
      deep = flat.level c lo hi

      -- it isn't laid
      free : IsOneOf q laid → ⊥
      free k = let a = over.left in let b = over.right in let d = over.bottom in omega (arith, laid_square_ends_by_the_depth c q k a b, deep)

      level : q.y ≡ v.level
      level = cases (le-same_or_less q.y v.level over.top)
        where
          cases : (q.y ≡ v.level) ⊎ (q.y < v.level) → q.y ≡ v.level
          cases (inl same) = same
          cases (inr above) = let a = over.left in let b = over.right in let d = over.bottom in
              absurd (free (is_laid c q.y q wide (omega (arith, deep)) h (covers_from c q.y q a b (omega arith) (omega arith))))

      left : v.x ≤ q.x
      left = cases (le_or_gt v.x q.x)
        where
          cases : (v.x ≤ q.x) ⊎ (q.x < v.x) → v.x ≤ q.x
          cases (inl k) = k
          cases (inr k) = absurd (before (v.x - 1) (omega arith))
            where
              before : (p : ℕ) → suc p ≡ v.x → ⊥
              before p s = let b = over.right in let d = over.bottom in let top = over.top in
                  free (is_laid p v.level q (omega arith) ((found.valley).left p s) h (covers_from p v.level q (omega arith) (omega arith) top d))

      right : q.x + q.s ≤ v.x + v.width
      right = cases (le_or_gt (q.x + q.s) (v.x + v.width))
        where
          cases : (q.x + q.s ≤ v.x + v.width) ⊎ (v.x + v.width < q.x + q.s) → q.x + q.s ≤ v.x + v.width
          cases (inl k) = k
          cases (inr k) = let a = over.left in let d = over.bottom in let top = over.top in let w = (within_of t tiling q h).right in
              absurd (free (is_laid (v.x + v.width) v.level q (omega arith) ((found.valley).right (omega arith)) h
              (covers_from (v.x + v.width) v.level q (omega arith) (omega arith) top d)))
