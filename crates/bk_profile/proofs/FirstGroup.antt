-- A first group, laid under its sum as the width.
use Rattle.std.specs.List.{AllByRecursion}
use Rattle.std.proofs.Common.{List, [], ap, arith, get_or, length, refl, suc, sum, zero, ℕ, ◌++◌, ◌<◌, ◌∙◌, ◌∷◌, ◌≡◌, ◌≤◌}
use Rattle.std.proofs.lemmas.List.Elements.{All-from_recursion}
use Rattle.bk_laws.proofs.HasAtLaws.{has_at-one}
use Rattle.bk_laws.specs.HasAt.{HasAt}
use Rattle.bk_tiling.specs.KeptTiling.{IsSide}
use Rattle.bk_tiling.specs.SquareGroups.{laid_group}
use Rattle.bk_tiling.specs.declared.Segment.{Segment}
use Rattle.bk_code.specs.Code.{Code}
use Rattle.bk_profile.proofs.CodeLaid.{sum_bounds}
use Rattle.bk_profile.proofs.LayingOnce.{gap_of_none}
use Rattle.bk_profile.proofs.Storing.{stored_laid}
use Rattle.bk_profile.proofs.LayingSteps.{FirstLaid, first_read, next_step}
use Rattle.bk_profile.specs.Laid.{Laid}
use Rattle.bk_profile.specs.OutlineRuns.{AreLowestRuns, runs_under_group}
use Rattle.bk_profile.specs.Refused.{first_sum}
use Rattle.bk_profile.specs.StoredProfile.{IsStoredProfile}
use Rattle.bk_profile.specs.declared.runs.LowestRuns.{LowestRuns}
use Rattle.bk_profile.specs.declared.runs.OutlineRun.{OutlineRun}

-- a profile with no square
abbrev empty : ℕ → Laid
empty w = record { width = w; squares = [] }

-- the whole width as a gap
abbrev top : ℕ → Segment
top w = record { x = 0; width = w; level = 0 }

-- the one run over the whole width
abbrev whole_run : ℕ → List OutlineRun
whole_run w = record { width = w; level = 0 } ∷ []

-- the lowest runs of an outline of one run
abbrev one_run : ℕ → LowestRuns
one_run w = record { first = 0; end = 1; segment = top w }

-- the outline of no square is one run
stored_none : (w : ℕ) → 0 < w → w ≤ 200_000_000_000_000_000 → IsStoredProfile (empty w) (whole_run w)
stored_none w some narrow = record {
  profile = record { some = some; narrow = narrow; few = omega arith; filled = λ c j l h. absurd (omega arith) };
  outline = record {
    some = All-from_recursion (λ (r : OutlineRun). 0 < r.width) (whole_run w) (some, tt);
    whole = omega arith;
    level = ((λ c a b. refl), tt);
    few = omega arith;
    low = All-from_recursion (λ (r : OutlineRun). r.level ≤ 0) (whole_run w) (omega arith, tt);
  };
}

one_is_lowest : (w : ℕ) → AreLowestRuns (whole_run w) (one_run w)
one_is_lowest w = record {
  places = record {
    some = omega arith;
    within = omega arith;
    run = record { width = w; level = 0 };
    run_is = refl;
    level = λ k r has _ b. only k r has b;
    least = λ k r has b. omega (arith, only k r has b);
    left = λ k r has b. absurd (omega (arith, b));
    right = λ r has b. absurd (omega (arith, b));
  };
  x = refl;
  end = omega arith;
  level = refl;
}
  where
    only : (k : ℕ) (r : OutlineRun) → HasAt (whole_run w) k r → k < 1 → r.level ≡ 0
    only zero r has b = ap (λ (r : OutlineRun). r.level) (has_at-one (whole_run w) 0 r (record { width = w; level = 0 }) has refl)
    only (suc k) r has b = absurd (omega (arith, b))

-- a first group and the runs under it are stored under its sum
pub stored_first : (sides : List ℕ) → 0 < length sides → length sides ≤ 200 → AllByRecursion IsSide sides
    → IsStoredProfile (record { width = sum sides; squares = laid_group 0 0 sides }) (runs_under_group 0 sides ++ [])
stored_first sides some few good =
    stored_laid (empty (sum sides)) (whole_run (sum sides)) (whole_run (sum sides)) (one_run (sum sides))
    (stored_none (sum sides) (omega (arith, (sum_bounds sides good).1, some)) (omega (arith, (sum_bounds sides good).0, few))) refl
    (one_is_lowest (sum sides)) sides refl good some (omega (arith, few))

-- with the first group of a code laid under its sum, one group of the code is laid
pub first_step : (code : Code) (group : List ℕ) (p : Laid) → 0 < length code → 0 < length group → AllByRecursion IsSide group → group ≡ get_or code 0 []
    → p ≡ record { width = sum group; squares = laid_group 0 0 group } → FirstLaid code 1 p
first_step code group p some long good is laid =
    next_step code 0 group (empty (first_sum code)) p (record { width = refl; lays = refl; count = refl }) some is (record {
      gap = top (first_sum code);
      is_gap = gap_of_none (first_sum code) (omega (arith, width, (sum_bounds group good).1, long));
      fits = width;
      laid = laid ∙ ap (λ n. record { width = n; squares = laid_group 0 0 group }) width;
    })
  where
    width : sum group ≡ first_sum code
    width = first_read code group (sum group) some is refl
