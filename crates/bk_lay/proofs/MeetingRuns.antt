-- Level runs at both sides of a valley: one more at an end, two that join, and where the leftmost valley stands.
use Rattle.std.proofs.Common.{List, [], ap, arith, get_or, inl, inr, length, refl, subst, suc, sym, ℕ, ◌++◌, ◌+◌, ◌-◌, ◌<◌, ◌∙◌, ◌∷◌, ◌≡◌, ◌≤◌, ◌⊎◌}
use Rattle.std.proofs.lemmas.Bool.{cases_lt}
use Rattle.bk_tiling.specs.Column.{IsLevel, depth}
use Rattle.bk_tiling.specs.declared.Segment.{Segment}
use Rattle.bk_tiling.specs.declared.Square.{Square}
use Rattle.bk_lay.proofs.Valleys.{leftmost_by_falling}
use Rattle.bk_lay.specs.LevelRuns.{AreBeside, FallingRuns, IsDeeperAtEnd, IsFallingRun, IsOutline, IsRun, Meet, RunsFromRight, last_level}
use Rattle.bk_lay.specs.TilingWord.{IsLeftmostValley}
use Rattle.bk_lay.specs.WordLaws.{NeverDeeperBefore}
use Rattle.bk_lay.specs.declared.outline.Outline.{Outline}
use Rattle.bk_lay.specs.declared.outline.LevelRun.{LevelRun}

-- the last of some runs, and those before it
pub falls_at_end : (laid : List Square) (x : ℕ) (front : List LevelRun) (r : LevelRun) (end : ℕ) → FallingRuns laid x (front ++ r ∷ []) end
    → FallingRuns laid x front r.x × IsFallingRun laid r × (r.end ≡ end)
falls_at_end laid x [] r end f = (sym f.0, f.1, f.2)
falls_at_end laid x (s ∷ front) r end f = let rest = falls_at_end laid s.end front r end f.2 in ((f.0, f.1, rest.0), rest.1, rest.2)

-- falling runs up to a column and a falling run that begins there are falling runs up to its end
pub falls_more : (laid : List Square) (x : ℕ) (front : List LevelRun) (r : LevelRun) → FallingRuns laid x front r.x → IsFallingRun laid r
    → FallingRuns laid x (front ++ r ∷ []) r.end
falls_more laid x [] r f is = (sym f, is, refl)
falls_more laid x (s ∷ front) r f is = (f.0, f.1, falls_more laid s.end front r f.2 is)

-- the last of some runs that are listed from the right, and those before it
pub right_at_end : (laid : List Square) (x : ℕ) (front : List LevelRun) (r : LevelRun) (end : ℕ) → RunsFromRight laid x (front ++ r ∷ []) end
    → (r.x ≡ x) × IsRun laid r × RunsFromRight laid r.end front end
right_at_end laid x [] r end f = (sym f.2, f.1, f.0)
right_at_end laid x (s ∷ front) r end f = let rest = right_at_end laid x front r s.x f.2 in (rest.0, rest.1, (f.0, f.1, rest.2))

-- runs that are listed from the right, with one more at their left end
pub right_more : (laid : List Square) (front : List LevelRun) (r : LevelRun) (end : ℕ) → RunsFromRight laid r.end front end → IsRun laid r
    → RunsFromRight laid r.x (front ++ r ∷ []) end
right_more laid [] r end f is = (f, is, refl)
right_more laid (s ∷ front) r end f is = (f.0, f.1, right_more laid front r s.x f.2 is)

-- a list is empty, or has a last element
pub last_of : (runs : List LevelRun) → (runs ≡ []) ⊎ ((front : List LevelRun) × (r : LevelRun) × (runs ≡ front ++ r ∷ []))
last_of [] = inl refl
last_of (s ∷ runs) = cases (last_of runs)
  where
    cases : (runs ≡ []) ⊎ ((front : List LevelRun) × (r : LevelRun) × (runs ≡ front ++ r ∷ []))
        → (s ∷ runs ≡ []) ⊎ ((front : List LevelRun) × (r : LevelRun) × (s ∷ runs ≡ front ++ r ∷ []))
    cases (inl e) = inr ([], s, ap (λ (l : List LevelRun). s ∷ l) e)
    cases (inr (front, r, e)) = inr (s ∷ front, r, ap (λ (l : List LevelRun). s ∷ l) e)

-- the level of the last run, read at its place
pub last_level_at : (runs : List LevelRun) (d : LevelRun) → 0 < length runs → (get_or runs (length runs - 1) d).level ∷ [] ≡ last_level runs
last_level_at [] d h = absurd (omega arith)
last_level_at (r ∷ []) d h = refl
last_level_at (r ∷ s ∷ runs) d h = ap (λ (k : ℕ). (get_or (r ∷ s ∷ runs) k d).level ∷ []) place ∙ last_level_at (s ∷ runs) d (omega arith)
  where
    place : suc (suc (length runs)) - 1 ≡ suc (suc (length runs) - 1)
    place = omega arith

-- the runs at the left never get deeper
pub falls_by_columns : (laid : List Square) (x : ℕ) (runs : List LevelRun) (end : ℕ) → FallingRuns laid x runs end → (c : ℕ) → x ≤ suc c → suc c < end
    → depth laid (suc c) ≤ depth laid c
falls_by_columns laid x [] end f c lo hi = absurd (omega (arith, f))
falls_by_columns laid x (r ∷ runs) end f c lo hi = cases (three c) (falls_by_columns laid r.end runs end f.2 c)
  where
    three : (c : ℕ) → (suc c ≡ r.x) ⊎ ((r.x ≤ c) × (suc c < r.end)) ⊎ ((r.end ≤ suc c) ⊎ (suc c < r.x))
    three c = grind arith

    cases : (suc c ≡ r.x) ⊎ ((r.x ≤ c) × (suc c < r.end)) ⊎ ((r.end ≤ suc c) ⊎ (suc c < r.x))
        → (r.end ≤ suc c → suc c < end → depth laid (suc c) ≤ depth laid c) → depth laid (suc c) ≤ depth laid c
    cases (inl e) later = let some = ((f.1).run).some in omega (arith, ((f.1).run).level (suc c) (omega arith) (omega arith), (f.1).wall c e)
    cases (inr (inl k)) later = omega (arith, ((f.1).run).level (suc c) (omega (arith, k.0)) k.1, ((f.1).run).level c k.0 (omega (arith, k.1)))
    cases (inr (inr (inl k))) later = later k hi
    cases (inr (inr (inr k))) later = absurd (omega (arith, f.0))

module _ (width : ℕ) (laid : List Square) where
  -- where the left is empty, the first run at the right begins at the wall
  pub first_from_right : (left kept front right : List LevelRun) (r : LevelRun) → kept ≡ left → (0 < length left → ⊥) → right ≡ front ++ r ∷ []
      → Meet width laid left right → AreBeside width laid kept r front
  first_from_right (s ∷ left) kept front right r same none is m = absurd (none (omega arith))
  first_from_right [] kept front right r same none is m = record {
    falls = subst (λ (l : List LevelRun). FallingRuns laid 0 l r.x) (sym same) (m.falls ∙ sym ends.0);
    run = record { run = ends.1; wall = λ c e. absurd (omega (arith, m.falls, ends.0)) };
    rest = ends.2;
  }
    where
      ends : (r.x ≡ m.column) × IsRun laid r × RunsFromRight laid r.end front width
      ends = right_at_end laid m.column front r width (subst (λ (l : List LevelRun). RunsFromRight laid m.column l width) is m.rest)

  -- where the last run at the left is taken out, it stands beside the others and the runs at the right
  pub last_from_left : (front left right : List LevelRun) (r : LevelRun) → left ≡ front ++ r ∷ [] → Meet width laid left right
      → AreBeside width laid front r right
  last_from_left front left right r is m = record {
    falls = ends.0;
    run = ends.1;
    rest = subst (λ (x : ℕ). RunsFromRight laid x right width) (sym ends.2) m.rest;
  }
    where
      ends : FallingRuns laid 0 front r.x × IsFallingRun laid r × (r.end ≡ m.column)
      ends = falls_at_end laid 0 front r m.column (subst (λ (l : List LevelRun). FallingRuns laid 0 l m.column) is m.falls)

  -- a less deep run follows
  pub falls_on : (left : List LevelRun) (v : LevelRun) (right : List LevelRun) (n : LevelRun) → AreBeside width laid left v (right ++ n ∷ [])
      → n.level < v.level
      → AreBeside width laid (left ++ v ∷ []) n right
  falls_on left v right n b less = record {
    falls = subst (λ (x : ℕ). FallingRuns laid 0 (left ++ v ∷ []) x) (sym ends.0) (falls_more laid 0 left v b.falls b.run);
    run = record {
      run = ends.1;
      wall = λ c e. let some = ((b.run).run).some in
          omega (arith, ((b.run).run).level c (omega (arith, ends.0)) (omega (arith, ends.0)));
    };
    rest = ends.2;
  }
    where
      ends : (n.x ≡ v.end) × IsRun laid n × RunsFromRight laid n.end right width
      ends = right_at_end laid v.end right n width b.rest

  -- a run of one level with the valley follows, and joins it
  pub joins : (left : List LevelRun) (v : LevelRun) (right : List LevelRun) (n : LevelRun) → AreBeside width laid left v (right ++ n ∷ []) → n.level ≡ v.level
      → AreBeside width laid left (record { x = v.x; end = n.end; level = v.level }) right
  joins left v right n b same = record {
    falls = b.falls;
    run = record {
      run = record {
        some = let one = ((b.run).run).some in let other = (ends.1).some in omega (arith, ends.0);
        level =
            λ c lo hi. level c lo hi (cases_lt c v.end);
      };
      wall = (b.run).wall;
    };
    rest = ends.2;
  }
    where
      ends : (n.x ≡ v.end) × IsRun laid n × RunsFromRight laid n.end right width
      ends = right_at_end laid v.end right n width b.rest

      level : (c : ℕ) → v.x ≤ c → c < n.end → (c < v.end) ⊎ (v.end ≤ c) → depth laid c ≡ v.level
      level c lo hi (inl k) = ((b.run).run).level c lo k
      level c lo hi (inr k) = (ends.1).level c (omega (arith, ends.0)) hi ∙ same

  -- where the runs at the right end deeper, so does the column after the valley
  pub rises_after : (left : List LevelRun) (v : LevelRun) (right : List LevelRun) → AreBeside width laid left v right → IsDeeperAtEnd v.level right
      → v.end < width
      → v.level < depth laid v.end
  rises_after left v right b deeper inside = cases (last_of right)
    where
      cases : (right ≡ []) ⊎ ((front : List LevelRun) × (r : LevelRun) × (right ≡ front ++ r ∷ [])) → v.level < depth laid v.end
      cases (inl e) = absurd (omega (arith, subst (λ (l : List LevelRun). RunsFromRight laid v.end l width) e b.rest))
      cases (inr (front, r, e)) = let some = (ends.1).some in
          omega (arith, deeper front r e, (ends.1).level v.end (omega (arith, ends.0)) (omega (arith, ends.0)))
        where
          ends : (r.x ≡ v.end) × IsRun laid r × RunsFromRight laid r.end front width
          ends = right_at_end laid v.end front r width (subst (λ (l : List LevelRun). RunsFromRight laid v.end l width) e b.rest)

right_order : (laid : List Square) (x : ℕ) (runs : List LevelRun) (end : ℕ) → RunsFromRight laid x runs end → x ≤ end
right_order laid x [] end f = omega (arith, f)
right_order laid x (r ∷ runs) end f = let some = (f.1).some in omega (arith, f.0, right_order laid x runs r.x f.2)

-- the segment of a run
abbrev pub segment_of : LevelRun → Segment
segment_of r = record { x = r.x; width = r.end - r.x; level = r.level }

-- the outline is about the leftmost valley
pub leftmost_in_outline : (width : ℕ) (laid : List Square) (o : Outline) → IsOutline width laid o → IsLeftmostValley width laid (segment_of o.valley)
leftmost_in_outline width laid o is =
    leftmost_by_falling width laid (segment_of o.valley) (record { flat = flat; left = ((is.runs).run).wall; right = right }) falls
  where
    v : LevelRun
    v = o.valley

    some : o.valley.x < o.valley.end
    some = (((is.runs).run).run).some

    ends : o.valley.x + (o.valley.end - o.valley.x) ≡ o.valley.end
    ends = omega arith

    flat : IsLevel width laid (segment_of o.valley)
    flat = record {
      some = omega arith;
      within = omega (arith, right_order laid o.valley.end o.right.items width (is.runs).rest);
      level = λ c lo hi. (((is.runs).run).run).level c lo (omega arith);
    }

    right : o.valley.x + (o.valley.end - o.valley.x) < width → o.valley.level < depth laid (o.valley.x + (o.valley.end - o.valley.x))
    right h = subst (λ (x : ℕ). o.valley.level < depth laid x) (sym ends) (is.rises (omega arith))

    two : (c : ℕ) → suc c ≤ o.valley.x → (suc c < o.valley.x) ⊎ (suc c ≡ o.valley.x)
    two c h = grind arith

    falls : NeverDeeperBefore laid (segment_of o.valley)
    falls c h = cases (two c h)
      where
        cases : (suc c < o.valley.x) ⊎ (suc c ≡ o.valley.x) → depth laid (suc c) ≤ depth laid c
        cases (inl k) = falls_by_columns laid 0 o.left.items o.valley.x (is.runs).falls c (omega arith) k
        cases (inr e) = omega (arith, ((is.runs).run).wall c e, (((is.runs).run).run).level (suc c) (omega arith) (omega arith))
