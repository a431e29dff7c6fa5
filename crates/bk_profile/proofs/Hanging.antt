-- The outline after a group is laid into the gap.
use Rattle.std.specs.List.{All, AllByRecursion}
use Rattle.std.proofs.Common.{List, [], ap, arith, drop, get_or, inl, inr, length, refl, subst, suc, sum, sym, take, zero, ℕ, ◌*◌, ◌++◌, ◌+◌, ◌<◌}
use Rattle.std.proofs.Common.{◌∙◌, ◌∷◌, ◌≡◌, ◌≤◌}
use Rattle.std.proofs.lemmas.List.{get_or-drop, get_or-take, length-append, length-drop, length-map, length-take-le, take-append-drop}
use Rattle.std.proofs.lemmas.List.Elements.{All-append}
use Rattle.std.proofs.lemmas.List.Sums.{sum_by-append, sum_by-cons}
use Rattle.bk_laws.proofs.HasAtLaws.{has_at-read}
use Rattle.bk_laws.proofs.Totals.{sum_is_total, total}
use Rattle.bk_tiling.proofs.FilledGroup.{depth_beside, depth_under}
use Rattle.bk_tiling.proofs.Group.{length_group}
use Rattle.bk_tiling.specs.Column.{depth}
use Rattle.bk_tiling.specs.KeptTiling.{IsSide}
use Rattle.bk_tiling.specs.SquareGroups.{laid_group}
use Rattle.bk_tiling.specs.Tiling.{IsOneOf}
use Rattle.bk_tiling.specs.declared.Segment.{Segment}
use Rattle.bk_tiling.specs.declared.Square.{Square}
use Rattle.bk_profile.proofs.RunStarts.{no_run}
use Rattle.bk_profile.specs.Gap.{IsGap}
use Rattle.bk_profile.specs.OutlineRuns.{AreLevel, AreOutlineRuns, IsLowest, run_start, run_under_side, runs_under_group, width_of}
use Rattle.bk_profile.specs.declared.runs.OutlineRun.{OutlineRun}

level_join : (laid : List Square) (x : ℕ) (runs more : List OutlineRun) → AreLevel laid x runs → AreLevel laid (x + width_of runs) more
    → AreLevel laid x (runs ++ more)
level_join laid x [] more a b = subst (λ n. AreLevel laid n more) (omega arith) b
level_join laid x (r ∷ runs) more a b =
    (a.0, level_join laid (x + r.width) runs more a.1 (subst (λ n. AreLevel laid n more) (omega (arith, sum_by-cons (λ (s : OutlineRun). s.width) r runs)) b))

level_split : (laid : List Square) (x : ℕ) (runs more : List OutlineRun) → AreLevel laid x (runs ++ more)
    → AreLevel laid x runs × AreLevel laid (x + width_of runs) more
level_split laid x [] more all = (tt, subst (λ n. AreLevel laid n more) (omega arith) all)
level_split laid x (r ∷ runs) more all =
    let rest : AreLevel laid (x + r.width) runs × AreLevel laid (x + r.width + width_of runs) more = level_split laid (x + r.width) runs more all.1 in
    ((all.0, rest.0), subst (λ n. AreLevel laid n more) (omega (arith, sum_by-cons (λ (s : OutlineRun). s.width) r runs)) rest.1)

-- runs whose columns keep their depth
level_kept : (laid new : List Square) (x : ℕ) (runs : List OutlineRun) → AreLevel laid x runs
    → ((c : ℕ) → x ≤ c → c < x + width_of runs → depth new c ≡ depth laid c) → AreLevel new x runs
level_kept laid new x [] all same = tt
level_kept laid new x (r ∷ runs) all same =
    let whole : width_of (r ∷ runs) ≡ r.width + width_of runs = sum_by-cons (λ (s : OutlineRun). s.width) r runs in
    (λ c l h. same c l (omega arith) ∙ all.0 c l h, level_kept laid new (x + r.width) runs all.1 (λ c l h. same c (omega arith) (omega arith)))

-- the runs under a group
under_level : (new : List Square) (x y : ℕ) (sides : List ℕ)
    → ((q : Square) → IsOneOf q (laid_group x y sides) → (c : ℕ) → q.x ≤ c → c < q.x + q.s → depth new c ≡ q.y + q.s)
    → AreLevel new x (runs_under_group y sides)
under_level new x y [] at = tt
under_level new x y (s ∷ sides) at =
    (λ c l h. at (record { x = x; y = y; s = s }) (inl refl) c l h, under_level new (x + s) y sides (λ q k c l h. at q (inr k) c l h))

-- level runs under sides are as wide as the sides together
width_under : (level : ℕ) (sides : List ℕ) → width_of (runs_under_group level sides) ≡ sum sides
width_under level [] = refl
width_under level (s ∷ sides) =
    omega (
      arith,
      sum_by-cons (λ (r : OutlineRun). r.width) (run_under_side level s) (runs_under_group level sides),
      sum_by-cons (λ (n : ℕ). n) s sides,
      width_under level sides,
    )

-- there is a run for each side
pub length_under : (level : ℕ) (sides : List ℕ) → length (runs_under_group level sides) ≡ length sides
length_under level sides = length-map sides (run_under_side level)

under_some : (level : ℕ) (sides : List ℕ) → AllByRecursion IsSide sides → All (λ (r : OutlineRun). 0 < r.width) (runs_under_group level sides)
under_some level [] good k d l = absurd (omega arith)
under_some level (s ∷ sides) good zero d l = good.0.0
under_some level (s ∷ sides) good (suc k) d l = under_some level sides good.1 k d (omega arith)

under_low : (level : ℕ) (sides : List ℕ) (most : ℕ) → AllByRecursion IsSide sides → level + 999_999_999_999_999 ≤ most
    → All (λ (r : OutlineRun). r.level ≤ most) (runs_under_group level sides)
under_low level [] most good low k d l = absurd (omega arith)
under_low level (s ∷ sides) most good low zero d l = omega (arith, good.0.1)
under_low level (s ∷ sides) most good low (suc k) d l = under_low level sides most good.1 low k d (omega arith)

all_take : (P : OutlineRun → Type 0) (runs : List OutlineRun) (a : ℕ) → a ≤ length runs → All P runs → All P (take a runs)
all_take P runs a within all k d l =
    let below : k < a = omega (arith, l, length-take-le a runs within) in
    subst P (sym (get_or-take a runs k d below)) (all k d (omega arith))

all_drop : (P : OutlineRun → Type 0) (runs : List OutlineRun) (b : ℕ) → All P runs → All P (drop b runs)
all_drop P runs b all k d l = subst P (sym (get_or-drop b runs k d)) (all (b + k) d (omega (arith, l, length-drop b runs)))

all_lower : (n m : ℕ) (runs : List OutlineRun) → n ≤ m → All (λ (r : OutlineRun). r.level ≤ n) runs → All (λ (r : OutlineRun). r.level ≤ m) runs
all_lower n m runs le all k d l = omega (arith, le, all k d l)

module _ (w : ℕ) (laid : List Square) (runs : List OutlineRun) (a b : ℕ) (gap : Segment) (sides : List ℕ) (outline : AreOutlineRuns w laid runs)
    (lowest : IsLowest runs (length runs) a b)
    (at : gap.x ≡ run_start runs a) (end : gap.x + gap.width ≡ run_start runs b) (level : gap.level ≡ (lowest.run).level)
    (is : IsGap w laid gap) (fits : sum sides ≡ gap.width)
    (good : AllByRecursion IsSide sides) where
  abbrev new : List Square
  new = laid ++ laid_group gap.x gap.level sides

  abbrev hung : List OutlineRun
  hung = (take a runs ++ runs_under_group gap.level sides) ++ drop b runs

  first : a < length runs
  first = omega (arith, lowest.some, lowest.within)

  same_level : (get_or runs a no_run).level ≡ (lowest.run).level
  same_level = ap (λ (r : OutlineRun). r.level) (has_at-read runs a lowest.run no_run lowest.run_is)

  wide : total sides ≡ gap.width
  wide = sym (sum_is_total sides) ∙ fits

  there : (c : ℕ) → gap.x ≤ c → c < gap.x + total sides → depth laid c ≡ gap.level
  there c l h = (is.flat).level c l (omega (arith, h, wide))

  front : width_of (take a runs ++ runs_under_group gap.level sides) ≡ run_start runs b
  front = sum_by-append (λ (r : OutlineRun). r.width) (take a runs) (runs_under_group gap.level sides)
      ∙ omega (arith, width_under gap.level sides, fits, at, end)

  back : run_start runs b + width_of (drop b runs) ≡ width_of runs
  back = sym (sum_by-append (λ (r : OutlineRun). r.width) (take b runs) (drop b runs)) ∙ ap width_of (take-append-drop b runs)

  left_level : AreLevel new 0 (take a runs)
  left_level =
      level_kept laid new 0 (take a runs)
      (level_split laid 0 (take a runs) (drop a runs) (subst (AreLevel laid 0) (sym (take-append-drop a runs)) outline.level)).0
      (λ c l h. depth_beside laid gap.x gap.level sides there c (inl (omega (arith, h, at))))

  under : AreLevel new (0 + width_of (take a runs)) (runs_under_group gap.level sides)
  under = subst (λ n. AreLevel new n (runs_under_group gap.level sides)) (at ∙ omega arith)
      (under_level new gap.x gap.level sides (λ q k c l h. depth_under laid gap.x gap.level sides there c q k l h))

  right_level : AreLevel new (0 + width_of (take a runs ++ runs_under_group gap.level sides)) (drop b runs)
  right_level = level_kept laid new (0 + width_of (take a runs ++ runs_under_group gap.level sides)) (drop b runs)
      (subst (λ n. AreLevel laid n (drop b runs)) (ap (λ n. 0 + n) (sym front))
      (level_split laid 0 (take b runs) (drop b runs) (subst (AreLevel laid 0) (sym (take-append-drop b runs)) outline.level)).1)
      (λ c l h. depth_beside laid gap.x gap.level sides there c (inr (omega (arith, l, front, end, wide))))

  longer : length new ≡ length laid + length sides
  longer = omega (arith, length-append laid (laid_group gap.x gap.level sides), length_group gap.x gap.level sides)

  most : length laid * 999_999_999_999_999 ≤ length new * 999_999_999_999_999
  most = omega (arith, ap (λ n. n * 999_999_999_999_999) longer)

  -- with a group laid into the gap, the runs with its own in the place of the gap's are the outline
  pub outline_laid : 0 < length sides → AreOutlineRuns w new hung
  outline_laid some = record {
    some = All-append (λ (r : OutlineRun). 0 < r.width) (take a runs ++ runs_under_group gap.level sides) (drop b runs)
        (All-append (λ (r : OutlineRun). 0 < r.width) (take a runs) (runs_under_group gap.level sides)
        (all_take (λ (r : OutlineRun). 0 < r.width) runs a (omega (arith, first)) outline.some) (under_some gap.level sides good))
        (all_drop (λ (r : OutlineRun). 0 < r.width) runs b outline.some);
    whole = sum_by-append (λ (r : OutlineRun). r.width) (take a runs ++ runs_under_group gap.level sides) (drop b runs)
        ∙ omega (arith, front, back, outline.whole);
    level = level_join new 0 (take a runs ++ runs_under_group gap.level sides) (drop b runs)
        (level_join new 0 (take a runs) (runs_under_group gap.level sides) left_level under) right_level;
    few = omega (
      arith,
      length-append (take a runs ++ runs_under_group gap.level sides) (drop b runs),
      length-append (take a runs) (runs_under_group gap.level sides),
      length_under gap.level sides,
      length-drop b runs,
      length-take-le a runs (omega (arith, first)),
      outline.few,
      longer,
      lowest.some,
      lowest.within,
    );
    low = All-append (λ (r : OutlineRun). r.level ≤ length new * 999_999_999_999_999) (take a runs ++ runs_under_group gap.level sides) (drop b runs)
        (All-append (λ (r : OutlineRun). r.level ≤ length new * 999_999_999_999_999) (take a runs) (runs_under_group gap.level sides)
        (all_take (λ (r : OutlineRun). r.level ≤ length new * 999_999_999_999_999) runs a (omega (arith, first))
        (all_lower (length laid * 999_999_999_999_999) (length new * 999_999_999_999_999) runs most outline.low))
        (under_low gap.level sides (length new * 999_999_999_999_999) good
        (omega (arith, level, same_level, outline.low a no_run first, ap (λ n. n * 999_999_999_999_999) longer, some))))
        (all_drop (λ (r : OutlineRun). r.level ≤ length new * 999_999_999_999_999) runs b
        (all_lower (length laid * 999_999_999_999_999) (length new * 999_999_999_999_999) runs most outline.low));
  }
