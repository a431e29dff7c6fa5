-- Level runs side by side: where each begins, the run over a column, and the gap and the depths that they show.
use Rattle.std.specs.List.{All, HoldsAt}
use Rattle.std.proofs.Common.{List, [], ap, arith, drop, get_or, length, suc, sym, take, zero, ℕ, ⊎_elim, ◌+◌, ◌-◌, ◌<◌, ◌∙◌, ◌∷◌, ◌≡◌, ◌≤◌}
use Rattle.std.proofs.lemmas.Bool.{cases_lt}
use Rattle.std.proofs.lemmas.List.{take-take, take_all}
use Rattle.std.proofs.lemmas.List.Sums.{sum_by-cons, sum_by-take-drop, sum_by-take-le, sum_by_more}
use Rattle.bk_laws.proofs.HasAtLaws.{has_at-read, has_at-within}
use Rattle.bk_laws.proofs.ListParts.{take-drop_swap}
use Rattle.bk_tiling.specs.Column.{depth}
use Rattle.bk_tiling.specs.declared.Segment.{Segment}
use Rattle.bk_tiling.specs.declared.Square.{Square}
use Rattle.bk_profile.specs.Gap.{IsGap}
use Rattle.bk_profile.specs.Laid.{IsGreatestDepth, IsLeastDepth}
use Rattle.bk_profile.specs.OutlineRuns.{AreLevel, AreOutlineRuns, IsLowest, run_start, width_of}
use Rattle.bk_profile.specs.declared.runs.OutlineRun.{OutlineRun}

-- a run that stands for none
abbrev pub no_run : OutlineRun
no_run = record { width = 0; level = 0 }

-- a run begins where the one before it ends
pub start_more : (runs : List OutlineRun) (k : ℕ) (d : OutlineRun) → k < length runs → run_start runs (k + 1) ≡ run_start runs k + (get_or runs k d).width
start_more runs k d l = sum_by_more (λ (r : OutlineRun). r.width) runs k d l

-- later runs begin further to the right
pub start_le : (runs : List OutlineRun) (j k : ℕ) → j ≤ k → run_start runs j ≤ run_start runs k
start_le runs zero k h = omega arith
start_le [] (suc j) zero h = absurd (omega arith)
start_le [] (suc j) (suc k) h = omega arith
start_le (r ∷ runs) (suc j) zero h = absurd (omega arith)
start_le (r ∷ runs) (suc j) (suc k) h =
    omega (
      arith,
      start_le runs j k (omega arith),
      sum_by-cons (λ (s : OutlineRun). s.width) r (take j runs),
      sum_by-cons (λ (s : OutlineRun). s.width) r (take k runs),
    )

-- between the beginnings of two runs lie the columns of the runs from the first of them up to the second
pub start_between : (runs : List OutlineRun) (j k : ℕ) → j ≤ k → run_start runs j + width_of (take (k - j) (drop j runs)) ≡ run_start runs k
start_between runs j k order =
    omega (
      arith,
      sum_by-take-drop (λ (r : OutlineRun). r.width) (take k runs) j,
      ap width_of (take-drop_swap runs j k order),
      ap width_of (take-take j k runs order),
    )

-- past the last run begins what is behind all of them
start_all : (runs : List OutlineRun) (n : ℕ) → length runs ≤ n → run_start runs n ≡ width_of runs
start_all runs n h = ap width_of (take_all n runs h)

-- no run begins behind all of them
pub start_below : (runs : List OutlineRun) (b : ℕ) → run_start runs b ≤ width_of runs
start_below runs b = sum_by-take-le (λ (r : OutlineRun). r.width) runs b

level_from : (laid : List Square) (x : ℕ) (runs : List OutlineRun) (k : ℕ) (d : OutlineRun) (c : ℕ) → AreLevel laid x runs → k < length runs
    → x + run_start runs k ≤ c
    → c < x + run_start runs (k + 1) → depth laid c ≡ (get_or runs k d).level
level_from laid x [] k d c all l from to = absurd (omega arith)
level_from laid x (r ∷ runs) zero d c all l from to = all.0 c (omega arith) (omega (arith, start_more (r ∷ runs) 0 no_run (omega arith)))
level_from laid x (r ∷ runs) (suc k) d c all l from to =
    level_from laid (x + r.width) runs k d c all.1 (omega arith) (omega (arith, sum_by-cons (λ (s : OutlineRun). s.width) r (take k runs)))
    (omega (arith, sum_by-cons (λ (s : OutlineRun). s.width) r (take (k + 1) runs), ap (λ n. width_of (take n (r ∷ runs))) (same k)))
  where
    same : (n : ℕ) → suc n + 1 ≡ suc (n + 1)
    same n = omega arith

-- the depth of a column is the level of its run
pub level_at : (w : ℕ) (laid : List Square) (runs : List OutlineRun) (k : ℕ) (d : OutlineRun) (c : ℕ) → AreOutlineRuns w laid runs → k < length runs
    → run_start runs k ≤ c
    → c < run_start runs (k + 1) → depth laid c ≡ (get_or runs k d).level
level_at w laid runs k d c outline l from to = level_from laid 0 runs k d c outline.level l (omega arith) (omega arith)

-- the run over a column, where the first run begins at x
pub record Lies (x : ℕ) (runs : List OutlineRun) (c : ℕ) : Type 0 where
  pub place : ℕ
  pub below : place < length runs
  pub from : x + run_start runs place ≤ c
  pub to : c < x + run_start runs (place + 1)

-- over each column lies a run
run_over_column : (x : ℕ) (runs : List OutlineRun) (c : ℕ) → x ≤ c → c < x + width_of runs → Lies x runs c
run_over_column x [] c l h = absurd (omega arith)
run_over_column x (r ∷ runs) c l h =
    let whole : width_of (r ∷ runs) ≡ r.width + width_of runs = sum_by-cons (λ (s : OutlineRun). s.width) r runs in
    ⊎_elim
    (λ (k : c < x + r.width). record { place = 0; below = omega arith; from = omega arith; to = omega (arith, start_more (r ∷ runs) 0 no_run (omega arith)) })
    (λ (k : x + r.width ≤ c).
    let rest : Lies (x + r.width) runs c = run_over_column (x + r.width) runs c k (omega arith) in
    record {
      place = suc rest.place;
      below = omega (arith, rest.below);
      from = omega (arith, rest.from, sum_by-cons (λ (s : OutlineRun). s.width) r (take rest.place runs));
      to = omega (
        arith,
        rest.to,
        sum_by-cons (λ (s : OutlineRun). s.width) r (take (rest.place + 1) runs),
        ap (λ n. width_of (take n (r ∷ runs))) (same rest.place),
      );
    })
    (cases_lt c (x + r.width))
  where
    same : (n : ℕ) → suc n + 1 ≡ suc (n + 1)
    same n = omega arith

-- the leftmost runs of least level that touch are the gap
pub gap_from_runs : (w : ℕ) (laid : List Square) (runs : List OutlineRun) (a b : ℕ) (gap : Segment) → AreOutlineRuns w laid runs
    → (lowest : IsLowest runs (length runs) a b)
    → gap.x ≡ run_start runs a → gap.x + gap.width ≡ run_start runs b → gap.level ≡ (lowest.run).level → IsGap w laid gap
gap_from_runs w laid runs a b gap outline lowest x end level = record {
  flat = record {
    some = omega (arith, x, end, start_le runs (a + 1) b (omega (arith, lowest.some)), start_more runs a no_run first, outline.some a no_run first);
    within = omega (arith, end, start_below runs b, outline.whole);
    level = λ c l r.
        let at : Lies 0 runs c = over c (omega (arith, end, start_below runs b)) in
        level_at w laid runs at.place no_run c outline at.below (omega (arith, at.from)) (omega (arith, at.to))
        ∙ lowest.level at.place (get_or runs at.place no_run) (has_at-within runs at.place no_run at.below) (not_left c at l) (not_right c at r) ∙ sym level;
  };
  least = λ c l.
      let at : Lies 0 runs c = over c (omega (arith, outline.whole)) in
      omega (
        arith,
        level_at w laid runs at.place no_run c outline at.below (omega (arith, at.from)) (omega (arith, at.to)),
        lowest.least at.place (get_or runs at.place no_run) (has_at-within runs at.place no_run at.below) at.below,
        level,
      );
  leftmost = λ c l.
      let at : Lies 0 runs c = over c (omega (arith, x, start_below runs a)) in
      omega (
        arith,
        level_at w laid runs at.place no_run c outline at.below (omega (arith, at.from)) (omega (arith, at.to)),
        lowest.left at.place (get_or runs at.place no_run) (has_at-within runs at.place no_run at.below) (before_first c at l),
        level,
      );
  ends = λ l.
      let more : b < length runs =
      ⊎_elim (λ (k : b < length runs). k) (λ (k : length runs ≤ b). absurd (omega (arith, l, end, outline.whole, start_all runs b k)))
      (cases_lt b (length runs)) in
      omega (
        arith,
        level_at w laid runs b no_run (gap.x + gap.width) outline more (omega (arith, end))
            (omega (arith, end, start_more runs b no_run more, outline.some b no_run more)),
        lowest.right (get_or runs b no_run) (has_at-within runs b no_run more) more,
        level,
      );
}
  where
    first : a < length runs
    first = omega (arith, lowest.some, lowest.within)

    over : (c : ℕ) → c < width_of runs → Lies 0 runs c
    over c h = run_over_column 0 runs c (omega arith) (omega (arith, h))

    not_left : (c : ℕ) (at : Lies 0 runs c) → gap.x ≤ c → a ≤ at.place
    not_left c at l = ⊎_elim (λ (k : at.place < a). absurd (omega (arith, at.to, x, l, start_le runs (at.place + 1) a (omega arith))))
        (λ (k : a ≤ at.place). k) (cases_lt at.place a)

    not_right : (c : ℕ) (at : Lies 0 runs c) → c < gap.x + gap.width → at.place < b
    not_right c at r =
        ⊎_elim (λ (k : at.place < b). k) (λ (k : b ≤ at.place). absurd (omega (arith, at.from, end, r, start_le runs b at.place k))) (cases_lt at.place b)

    before_first : (c : ℕ) (at : Lies 0 runs c) → c < gap.x → at.place < a
    before_first c at l =
        ⊎_elim (λ (k : at.place < a). k) (λ (k : a ≤ at.place). absurd (omega (arith, at.from, x, l, start_le runs a at.place k))) (cases_lt at.place a)

-- the columns of a run lie in the width and have its level
in_width : (w : ℕ) (laid : List Square) (runs : List OutlineRun) (k : ℕ) → AreOutlineRuns w laid runs → k < length runs
    → (run_start runs k < w) × (depth laid (run_start runs k) ≡ (get_or runs k no_run).level)
in_width w laid runs k outline l =
    let some : 0 < (get_or runs k no_run).width = outline.some k no_run l in (
      omega (arith, start_more runs k no_run l, start_below runs (k + 1), outline.whole),
      level_at w laid runs k no_run (run_start runs k) outline l (omega arith) (omega (arith, start_more runs k no_run l)),
    )

-- the lowest runs' level is the least depth
pub least_depth : (w : ℕ) (laid : List Square) (runs : List OutlineRun) (a b : ℕ) → AreOutlineRuns w laid runs → IsLowest runs (length runs) a b
    → IsLeastDepth (record { width = w; squares = laid }) (get_or runs a no_run).level
least_depth w laid runs a b outline lowest = record {
  column = run_start runs a;
  within = (in_width w laid runs a outline first).0;
  there = (in_width w laid runs a outline first).1;
  below = λ c h.
      let at : Lies 0 runs c = run_over_column 0 runs c (omega arith) (omega (arith, h, outline.whole)) in
      omega (
        arith,
        level_at w laid runs at.place no_run c outline at.below (omega (arith, at.from)) (omega (arith, at.to)),
        lowest.least at.place (get_or runs at.place no_run) (has_at-within runs at.place no_run at.below) at.below,
        ap (λ (r : OutlineRun). r.level) (has_at-read runs a lowest.run no_run lowest.run_is),
      );
}
  where
    first : a < length runs
    first = omega (arith, lowest.some, lowest.within)

-- a level that is a run's and that none passes is the greatest depth
pub greatest_depth : (w : ℕ) (laid : List Square) (runs : List OutlineRun) (k greatest : ℕ) → AreOutlineRuns w laid runs
    → All (λ (r : OutlineRun). r.level ≤ greatest) runs → k < length runs → HoldsAt (λ (r : OutlineRun). r.level ≡ greatest) runs k
    → IsGreatestDepth (record { width = w; squares = laid }) greatest
greatest_depth w laid runs k greatest outline most below at = record {
  column = run_start runs k;
  within = (in_width w laid runs k outline below).0;
  there = (in_width w laid runs k outline below).1 ∙ at no_run;
  above = λ c h.
      let over : Lies 0 runs c = run_over_column 0 runs c (omega arith) (omega (arith, h, outline.whole)) in
      omega (
        arith,
        level_at w laid runs over.place no_run c outline over.below (omega (arith, over.from)) (omega (arith, over.to)),
        most over.place no_run over.below,
      );
}
