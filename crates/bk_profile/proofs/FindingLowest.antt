-- The leftmost runs of least level that touch, found run by run.
use Rattle.std.proofs.Common.{List, ap, arith, get_or, length, subst, sym, ℕ, ⊎_elim, ◌+◌, ◌<◌, ◌≡◌, ◌≤◌}
use Rattle.std.proofs.lemmas.Bool.{cases_lt}
use Rattle.bk_laws.proofs.HasAtLaws.{has_at-one, has_at-read, has_at-within}
use Rattle.bk_laws.specs.HasAt.{HasAt}
use Rattle.bk_profile.proofs.RunStarts.{no_run}
use Rattle.bk_profile.specs.OutlineRuns.{IsLowest}
use Rattle.bk_profile.specs.declared.runs.OutlineRun.{OutlineRun}

-- what stands at a place has the level that is read there
level_there : (runs : List OutlineRun) (n k : ℕ) (r : OutlineRun) → n < length runs → HasAt runs k r → k ≡ n → r.level ≡ (get_or runs n no_run).level
level_there runs n k r within at e =
    ap (λ (s : OutlineRun). s.level)
    (has_at-one runs n r (get_or runs n no_run) (subst (λ (m : ℕ). HasAt runs m r) e at) (has_at-within runs n no_run within))

-- of the first run alone, that run is the lowest
pub lowest_one : (runs : List OutlineRun) → 0 < length runs → IsLowest runs 1 0 1
lowest_one runs some = record {
  some = omega arith;
  within = omega arith;
  run = get_or runs 0 no_run;
  run_is = has_at-within runs 0 no_run some;
  level = λ k r at from to. first k r at to;
  least = λ k r at to. omega (arith, first k r at to);
  left = λ k r at to. absurd (omega (arith, to));
  right = λ r at to. absurd (omega (arith, to));
}
  where
    first : (k : ℕ) (r : OutlineRun) → HasAt runs k r → k < 1 → r.level ≡ (get_or runs 0 no_run).level
    first k r at to = level_there runs 0 k r some at (omega (arith, to))

-- what one run more does to the lowest ones
module _ (runs : List OutlineRun) (n a b : ℕ) (lowest : IsLowest runs n a b) (more : n < length runs) where
  abbrev next : ℕ
  next = (get_or runs n no_run).level

  read : (get_or runs a no_run).level ≡ (lowest.run).level
  read = ap (λ (s : OutlineRun). s.level) (has_at-read runs a lowest.run no_run lowest.run_is)

  -- a place before n + 1 is one before n, or it is n
  before_or_there : (k : ℕ) (r : OutlineRun) → HasAt runs k r → k < n + 1 → (P : ℕ → Type 0) → (k < n → P r.level) → P next → P r.level
  before_or_there k r at to P early here =
      ⊎_elim early (λ (h : n ≤ k). subst P (sym (level_there runs n k r more at (same h))) here) (cases_lt k n)
    where
      same : n ≤ k → k ≡ n
      same h = omega (arith, h, to)

  -- a run that is lower than those before it is the lowest
  pub lowest_lower : next < (get_or runs a no_run).level → IsLowest runs (n + 1) n (n + 1)
  lowest_lower lower = record {
    some = omega arith;
    within = omega arith;
    run = get_or runs n no_run;
    run_is = has_at-within runs n no_run more;
    level = λ k r at from to. level_there runs n k r more at (omega (arith, from, to));
    least = λ k r at to. before_or_there k r at to (λ m. next ≤ m) (λ h. omega (arith, lower, read, lowest.least k r at h)) (omega arith);
    left = λ k r at to. omega (arith, lower, read, lowest.least k r at to);
    right = λ r at to. absurd (omega (arith, to));
  }

  -- a run as low as the lowest ones that touches them is one of them
  pub lowest_longer : b ≡ n → next ≡ (get_or runs a no_run).level → IsLowest runs (n + 1) a (n + 1)
  lowest_longer touches level = record {
    some = omega (arith, lowest.some, lowest.within);
    within = omega arith;
    run = lowest.run;
    run_is = lowest.run_is;
    level = λ k r at from to. before_or_there k r at to (λ m. m ≡ (lowest.run).level) (λ h. lowest.level k r at from (omega (arith, h, touches)))
        (omega (arith, level, read));
    least = λ k r at to. before_or_there k r at to (λ m. (lowest.run).level ≤ m) (λ h. lowest.least k r at h) (omega (arith, level, read));
    left = lowest.left;
    right = λ r at to. absurd (omega (arith, to));
  }

  -- a run that isn't lower than the lowest ones, and higher where it touches them, changes nothing
  pub lowest_kept : (get_or runs a no_run).level ≤ next → (b ≡ n → (get_or runs a no_run).level < next) → IsLowest runs (n + 1) a b
  lowest_kept not_lower higher = record {
    some = lowest.some;
    within = omega (arith, lowest.within);
    run = lowest.run;
    run_is = lowest.run_is;
    level = lowest.level;
    least = λ k r at to. before_or_there k r at to (λ m. (lowest.run).level ≤ m) (λ h. lowest.least k r at h) (omega (arith, not_lower, read));
    left = lowest.left;
    right = λ r at to. ⊎_elim (λ (h : b < n). lowest.right r at h) (λ (h : n ≤ b). above r at (omega (arith, h, to))) (cases_lt b n);
  }
    where
      above : (r : OutlineRun) → HasAt runs b r → b ≡ n → (lowest.run).level < r.level
      above r at e = omega (arith, read, higher e, level_there runs n b r more at e)
