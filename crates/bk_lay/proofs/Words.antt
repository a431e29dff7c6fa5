-- Every tiling has a word: there is a leftmost valley each time, and each time a square is laid.
use Rattle.std.proofs.Common.{List, [], ap, arith, inl, inr, refl, subst, suc, sym, zero, ℕ, ◌++◌, ◌+◌, ◌-◌, ◌<◌, ◌∙◌, ◌∷◌, ◌≡◌, ◌≤◌, ◌⊎◌}
use Rattle.std.proofs.lemmas.Bool.{cases_lt}
use Rattle.bk_laws.proofs.NumberOrder.{le_or_gt}
use Rattle.bk_tiling.proofs.Cells.{column_from, depth-append, depth_comes_from, depth_reaches, in_all}
use Rattle.bk_tiling.proofs.TilingLaws.{wide_enough, within_of}
use Rattle.bk_tiling.specs.Column.{IsLevel, depth}
use Rattle.bk_tiling.specs.declared.Segment.{Segment}
use Rattle.bk_tiling.specs.Tiling.{IsOneOf, IsTiling, Tiling}
use Rattle.bk_tiling.specs.declared.Square.{Square}
use Rattle.bk_word.specs.Word.{Word}
use Rattle.bk_lay.proofs.UnderValley.{IsUnder}
use Rattle.bk_lay.proofs.Filling.{first_under, in_tiling, is_under, valley_is_filled}
use Rattle.bk_lay.proofs.Valleys.{leftmost_by_falling, one_leftmost_valley}
use Rattle.bk_lay.specs.Depiction.{FillsFromTop}
use Rattle.bk_lay.specs.TilingWord.{IsLeftmostValley, MovesFollow, move_under, squares_under}
use Rattle.bk_lay.specs.WordLaws.{EveryTilingHasAWord, LeftmostIsFirstRise, NeverDeeperBefore}
use Rattle.std.specs.Prelude.{◌*◌}

module _ (width : ℕ) (laid : List Square) where
  -- n columns from x on are level, the column before them is deeper, and the columns never get deeper before them
  record Scanned (x n : ℕ) : Type 0 where
    some : 0 < n
    level : (c : ℕ) → x ≤ c → c < x + n → depth laid c ≡ depth laid x
    wall : (c : ℕ) → suc c ≡ x → depth laid x < depth laid c
    falls : (c : ℕ) → suc c ≤ x → depth laid (suc c) ≤ depth laid c

  found_at : (x n : ℕ) → Scanned x n → x + n ≤ width → (x + n < width → depth laid x < depth laid (x + n))
      → (v : Segment) × IsLeftmostValley width laid v × NeverDeeperBefore laid v
  found_at x n s room end = (
    record { x = x; width = n; level = depth laid x },
    leftmost_by_falling width laid (record { x = x; width = n; level = depth laid x })
        (record { flat = record { some = s.some; within = room; level = s.level }; left = s.wall; right = end }) s.falls,
    s.falls,
  )

  longer : (x n : ℕ) → Scanned x n → depth laid (x + n) ≡ depth laid x → Scanned x (suc n)
  longer x n s same = record { some = omega arith; level = λ c a b. level c a (last c b); wall = s.wall; falls = s.falls }
    where
      last : (c : ℕ) → c < x + suc n → (c < x + n) ⊎ (c ≡ x + n)
      last c b = grind arith

      level : (c : ℕ) → x ≤ c → (c < x + n) ⊎ (c ≡ x + n) → depth laid c ≡ depth laid x
      level c a (inl b) = s.level c a b
      level c a (inr e) = ap (depth laid) e ∙ same

  next_run : (x n : ℕ) → Scanned x n → depth laid (x + n) < depth laid x → Scanned (x + n) 1
  next_run x n s less = record { some = omega arith; level = λ c a b. ap (depth laid) (one c a b); wall = wall; falls = λ c h. falls c h (three c h) }
    where
      one : (c : ℕ) → x + n ≤ c → c < x + n + 1 → c ≡ x + n
      one c a b = omega arith

      wall : (c : ℕ) → suc c ≡ x + n → depth laid (x + n) < depth laid c
      wall c e = let some = s.some in omega (arith, s.level c (omega arith) (omega arith))

      three : (c : ℕ) → suc c ≤ x + n → (suc c ≤ x) ⊎ ((x ≤ c) × (suc c < x + n)) ⊎ ((x ≤ c) × (suc c ≡ x + n))
      three c h = grind arith

      falls : (c : ℕ) → suc c ≤ x + n → (suc c ≤ x) ⊎ ((x ≤ c) × (suc c < x + n)) ⊎ ((x ≤ c) × (suc c ≡ x + n)) → depth laid (suc c) ≤ depth laid c
      falls c h (inl a) = s.falls c a
      falls c h (inr (inl b)) = omega (arith, s.level c b.0 (omega (arith, b.1)), s.level (suc c) (omega (arith, b.0)) b.1)
      falls c h (inr (inr b)) = let here : depth laid (suc c) ≡ depth laid (x + n) = ap (depth laid) b.1 in omega (arith, s.level c b.0 (omega (arith, b.1)))

  scan : (fuel x n : ℕ) → Scanned x n → x + n + fuel ≡ width → (v : Segment) × IsLeftmostValley width laid v × NeverDeeperBefore laid v
  scan zero x n s e = found_at x n s (omega arith) (λ h. absurd (omega arith))
  scan (suc fuel) x n s e = cases (three (depth laid (x + n)) (depth laid x)) (scan fuel x (suc n)) (scan fuel (x + n) 1)
    where
      three : (a b : ℕ) → (a ≡ b) ⊎ (b < a) ⊎ (a < b)
      three a b = grind arith

      cases : (depth laid (x + n) ≡ depth laid x) ⊎ (depth laid x < depth laid (x + n)) ⊎ (depth laid (x + n) < depth laid x)
          → (Scanned x (suc n) → x + suc n + fuel ≡ width → (v : Segment) × IsLeftmostValley width laid v × NeverDeeperBefore laid v)
          → (Scanned (x + n) 1 → x + n + 1 + fuel ≡ width → (v : Segment) × IsLeftmostValley width laid v × NeverDeeperBefore laid v)
          → (v : Segment) × IsLeftmostValley width laid v × NeverDeeperBefore laid v
      cases (inl same) goes further = goes (longer x n s same) (omega arith)
      cases (inr (inl more)) goes further = found_at x n s (omega arith) (λ h. more)
      cases (inr (inr less)) goes further = further (next_run x n s less) (omega arith)

  -- columns of any depths have a leftmost valley
  pub there_is_a_valley : 0 < width → (v : Segment) × IsLeftmostValley width laid v × NeverDeeperBefore laid v
  there_is_a_valley h =
      scan (width - 1) 0 1 (record {
        some = omega arith;
        level = λ c a b. ap (depth laid) (zeroth c b);
        wall = λ c e. absurd (omega arith);
        falls = λ c e. absurd (omega arith);
      }) (omega arith)
    where
      zeroth : (c : ℕ) → c < 0 + 1 → c ≡ 0
      zeroth c b = omega arith

-- before the leftmost valley the columns never get deeper
falls_before : (width : ℕ) (laid : List Square) (v : Segment) → IsLeftmostValley width laid v → NeverDeeperBefore laid v
falls_before width laid v found = subst (NeverDeeperBefore laid) (one_leftmost_valley width laid there.0 v there.1 found) there.2
  where
    there : (v : Segment) × IsLeftmostValley width laid v × NeverDeeperBefore laid v
    there = there_is_a_valley width laid (let some = ((found.valley).flat).some in let within = ((found.valley).flat).within in omega arith)

-- a valley is the leftmost just where the columns before it never get deeper
pub leftmost_is_first_rise : LeftmostIsFirstRise
leftmost_is_first_rise width laid v valley = (leftmost_by_falling width laid v valley, falls_before width laid v)

-- the sum of the depths of the first columns
abbrev total : List Square → ℕ → ℕ
total laid zero = 0
total laid (suc c) = depth laid c + total laid c

total_most : (height : ℕ) (laid : List Square) → ((c : ℕ) → depth laid c ≤ height) → (c : ℕ) → total laid c ≤ c * height
total_most height laid most zero = omega arith
total_most height laid most (suc c) = omega (arith, most c, total_most height laid most c)

total_grows : (laid more : List Square) → ((c : ℕ) → depth laid c ≤ depth more c) → (c : ℕ) → total laid c ≤ total more c
total_grows laid more grows zero = omega arith
total_grows laid more grows (suc c) = omega (arith, grows c, total_grows laid more grows c)

total_rises : (laid more : List Square) → ((c : ℕ) → depth laid c ≤ depth more c) → (d : ℕ) → depth laid d < depth more d → (c : ℕ) → d < c
    → total laid c < total more c
total_rises laid more grows d rise zero h = absurd (omega arith)
total_rises laid more grows d rise (suc c) h = cases (cases_lt d c) (total_rises laid more grows d rise c)
  where
    cases : (d < c) ⊎ (c ≤ d) → (d < c → total laid c < total more c) → depth laid c + total laid c < depth more c + total more c
    cases (inl k) rest = omega (arith, grows c, rest k)
    cases (inr k) rest = let e : c ≡ d = omega arith in let a : depth laid c ≡ depth laid d = ap (depth laid) e in
        let b : depth more c ≡ depth more d = ap (depth more) e in omega (arith, total_grows laid more grows c)

module _ (t : Tiling) (tiling : IsTiling t) where
  most : (laid : List Square) → FillsFromTop t laid → (c : ℕ) → depth laid c ≤ t.height
  most laid fills c = cases (le_or_gt (depth laid c) t.height)
    where
      cases : (depth laid c ≤ t.height) ⊎ (t.height < depth laid c) → depth laid c ≤ t.height
      cases (inl h) = h
      cases (inr h) = let p = depth_comes_from laid c t.height h in
          let w = (within_of t tiling p.0 (in_all (λ q. IsOneOf q t.squares) laid fills.squares p.0 p.1)).bottom in absurd (omega (arith, p.3))

  -- the leftmost valley lies at the height only where all columns do
  pub all_full : (laid : List Square) → FillsFromTop t laid → (v : Segment) → IsLeftmostValley t.width laid v → t.height ≤ v.level → (c : ℕ)
      → c < t.width → depth laid c ≡ t.height
  all_full laid fills v found high c wide = same (v.level) (flat.level c (begins v.x refl) (ends (le_or_gt t.width (v.x + v.width))))
    where
      flat : IsLevel t.width laid v
      flat = (found.valley).flat

      begins : (x : ℕ) → v.x ≡ x → v.x ≤ c
      begins zero e = omega arith
      begins (suc p) e = absurd (omega (arith, (found.valley).left p (sym e), most laid fills p))

      ends : (t.width ≤ v.x + v.width) ⊎ (v.x + v.width < t.width) → c < v.x + v.width
      ends (inl h) = omega arith
      ends (inr h) = absurd (omega (arith, (found.valley).right h, most laid fills (v.x + v.width)))

      same : (level : ℕ) → depth laid c ≡ v.level → depth laid c ≡ t.height
      same level e = omega (arith, most laid fills c)

  -- laying the squares under the leftmost valley makes its first column deeper
  rises : (laid : List Square) (fills : FillsFromTop t laid) (v : Segment) (found : IsLeftmostValley t.width laid v) (low : v.level < t.height)
      → total laid t.width < total (laid ++ squares_under t v) t.width
  rises laid fills v found low = total_rises laid (laid ++ squares_under t v) (depth-append laid (squares_under t v)) q.x deeper t.width inside
    where
      there : (q : Square) × IsOneOf q (squares_under t v)
      there = first_under t laid v tiling fills found low

      q : Square
      q = there.0

      under : IsUnder v there.0
      under = is_under t laid v tiling fills found low there.0 there.1

      in_new : (laid more : List Square) → IsOneOf there.0 more → IsOneOf there.0 (laid ++ more)
      in_new [] more h = h
      in_new (r ∷ laid) more h = inr (in_new laid more h)

      side : 0 < (there.0).s
      side = in_all (λ q. 0 < q.s) t.squares (tiling.tiles).sides there.0 (in_tiling t laid v tiling fills found low there.0 there.1)

      inside : (there.0).x < t.width
      inside = let a = under.right in let b = ((found.valley).flat).within in omega (arith, side)

      deeper : depth laid (there.0).x < depth (laid ++ squares_under t v) (there.0).x
      deeper = let a = under.level in let b = under.left in let d = under.right in
          let now = depth_reaches (laid ++ squares_under t v) (there.0).x there.0 (in_new laid (squares_under t v) there.1)
          (column_from (there.0).x there.0 (omega arith) (omega (arith, side))) in
          omega (arith, side, ((found.valley).flat).level (there.0).x b (omega (arith, side)))

  moves_from : (fuel : ℕ) (laid : List Square) → FillsFromTop t laid → t.width * t.height ≤ total laid t.width + fuel → (w : Word) × MovesFollow t laid w
  moves_from zero laid fills enough = last (there_is_a_valley t.width laid (wide_enough t tiling))
    where
      last : ((v : Segment) × IsLeftmostValley t.width laid v × NeverDeeperBefore laid v) → (w : Word) × MovesFollow t laid w
      last found = cases (cases_lt (found.0).level t.height)
        where
          cases : ((found.0).level < t.height) ⊎ (t.height ≤ (found.0).level) → (w : Word) × MovesFollow t laid w
          cases (inl low) = absurd (omega (
            arith,
            rises laid fills found.0 found.1 low,
            total_most t.height (laid ++ squares_under t found.0)
                (most (laid ++ squares_under t found.0) (valley_is_filled t laid found.0 tiling fills found.1 low).1) t.width,
          ))
          cases (inr high) = ([], all_full laid fills found.0 found.1 high)
  moves_from (suc fuel) laid fills enough = last (there_is_a_valley t.width laid (wide_enough t tiling)) (moves_from fuel)
    where
      last : ((v : Segment) × IsLeftmostValley t.width laid v × NeverDeeperBefore laid v)
          → ((laid : List Square) → FillsFromTop t laid → t.width * t.height ≤ total laid t.width + fuel → (w : Word) × MovesFollow t laid w)
          → (w : Word) × MovesFollow t laid w
      last found rest = cases (cases_lt (found.0).level t.height)
        where
          cases : ((found.0).level < t.height) ⊎ (t.height ≤ (found.0).level) → (w : Word) × MovesFollow t laid w
          cases (inr high) = ([], all_full laid fills found.0 found.1 high)
          cases (inl low) = let more =
              rest (laid ++ squares_under t found.0) (valley_is_filled t laid found.0 tiling fills found.1 low).1
              (omega (arith, rises laid fills found.0 found.1 low)) in
              (move_under t laid found.0 ∷ more.0, (found.0, found.1, low, refl, more.1))

  -- what is laid can be gone on with to the end
  pub some_moves_follow : (laid : List Square) → FillsFromTop t laid → (w : Word) × MovesFollow t laid w
  some_moves_follow laid fills = moves_from (t.width * t.height) laid fills (omega arith)

  -- where nothing is laid, the tiling is filled from the top so far
  pub nothing_laid : FillsFromTop t []
  nothing_laid = record { squares = tt; filled = λ c j a b. absurd (omega arith) }

-- each tiling has a word, move by move from where nothing is laid
pub every_tiling_has_a_word : EveryTilingHasAWord
every_tiling_has_a_word t tiling = moves_from t tiling (t.width * t.height) [] (nothing_laid t tiling) (omega arith)
