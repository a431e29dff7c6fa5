-- A profile before and after a group is laid into the gap of its outline.
use Rattle.std.specs.List.{All, AllByRecursion, HoldsAt}
use Rattle.std.proofs.Common.{List, [], ap, arith, drop, get_or, length, subst, sym, take, ℕ, ◌*◌, ◌++◌, ◌+◌, ◌<◌, ◌∷◌, ◌≡◌, ◌≤◌}
use Rattle.std.proofs.lemmas.List.{length-append}
use Rattle.bk_laws.proofs.HasAtLaws.{has_at-read}
use Rattle.bk_laws.proofs.Totals.{sum_is_total, total}
use Rattle.bk_tiling.proofs.FilledGroup.{filled_group}
use Rattle.bk_tiling.proofs.Group.{length_group}
use Rattle.bk_tiling.specs.Column.{depth}
use Rattle.bk_tiling.specs.KeptTiling.{IsSide}
use Rattle.bk_tiling.specs.SquareGroups.{laid_group}
use Rattle.bk_tiling.specs.declared.Segment.{Segment}
use Rattle.bk_tiling.specs.declared.Square.{Square}
use Rattle.bk_profile.proofs.Hanging.{outline_laid}
use Rattle.bk_profile.proofs.RunStarts.{gap_from_runs, greatest_depth, least_depth, no_run, start_below}
use Rattle.bk_profile.specs.Gap.{FitsGap, IsGap, laid_with_group}
use Rattle.bk_profile.specs.Laid.{IsGreatestDepth, IsLeastDepth, Laid}
use Rattle.bk_profile.specs.OutlineRuns.{AreLowestRuns, IsLowest, runs_under_group, width_of}
use Rattle.bk_profile.specs.StoredProfile.{IsStoredProfile}
use Rattle.bk_profile.specs.declared.runs.LowestRuns.{LowestRuns}
use Rattle.bk_profile.specs.declared.runs.OutlineRun.{OutlineRun}

-- the columns of a gap, by the sum of the sides that fill it
pub depth_in_filled_gap : (w : ℕ) (laid : List Square) (gap : Segment) (sides : List ℕ) → IsGap w laid gap → FitsGap gap sides → (c : ℕ) → gap.x ≤ c
    → c < gap.x + total sides → depth laid c ≡ gap.level
depth_in_filled_gap w laid gap sides is fits c l h = (is.flat).level c l (omega (arith, h, fits, sum_is_total sides))

-- a stored profile has a run
pub some_runs : (p : Laid) (runs : List OutlineRun) → IsStoredProfile p runs → 0 < length runs
some_runs p [] stored = absurd (omega (arith, (stored.outline).whole, (stored.profile).some))
some_runs p (r ∷ runs) stored = omega arith

-- the stored runs have less than 2^63 columns
pub narrow_runs : (p : Laid) (runs : List OutlineRun) → IsStoredProfile p runs → width_of runs < 9223372036854775808
narrow_runs p runs stored = omega (arith, (stored.outline).whole, (stored.profile).narrow)

-- what is read off the runs of a stored profile
module _ (p : Laid) (runs read : List OutlineRun) (lowest : LowestRuns) (stored : IsStoredProfile p runs) (same : read ≡ runs)
    (are : AreLowestRuns read lowest) where
  -- the runs that are read as the lowest are the lowest ones that are stored
  lowest_stored : AreLowestRuns runs lowest
  lowest_stored = subst (λ (l : List OutlineRun). AreLowestRuns l lowest) same are

  -- the segment that the lowest runs make is the gap
  pub gap_read : IsGap p.width p.squares lowest.segment
  gap_read = gap_from_runs p.width p.squares runs lowest.first lowest.end lowest.segment stored.outline lowest_stored.places lowest_stored.x
      lowest_stored.end lowest_stored.level

  -- the gap's level is at most the sum of 200 longest sides
  pub level_small : lowest.segment.level ≤ 200 * 999_999_999_999_999
  level_small = omega (
    arith,
    lowest_stored.level,
    ap (λ (r : OutlineRun). r.level) (has_at-read runs lowest.first lowest_stored.places.run no_run lowest_stored.places.run_is),
    (stored.outline).low lowest.first no_run (omega (arith, lowest_stored.places.some, lowest_stored.places.within)),
    (stored.profile).few,
  )

  -- the gap ends before column 2^63
  pub gap_narrow : lowest.segment.x + lowest.segment.width < 9223372036854775808
  gap_narrow = omega (arith, lowest_stored.end, start_below runs lowest.end, narrow_runs p runs stored)

  -- where a group that fits the lowest gap is laid in it, and at most 200 squares are laid, what is laid and its runs can be stored
  pub stored_laid : (sides : List ℕ) → FitsGap lowest.segment sides → AllByRecursion IsSide sides → 0 < length sides
      → length p.squares + length sides ≤ 200
      → IsStoredProfile (record { width = p.width; squares = laid_with_group p.squares lowest.segment sides })
      ((take lowest.first runs ++ runs_under_group (lowest.segment).level sides) ++ drop lowest.end runs)
  stored_laid sides fits good some room = let gap : Segment = lowest.segment in record {
    profile = record {
      some = (stored.profile).some;
      narrow = (stored.profile).narrow;
      few = omega (arith, length-append p.squares (laid_group gap.x gap.level sides), length_group gap.x gap.level sides, room);
      filled = filled_group p.squares gap.x gap.level sides (depth_in_filled_gap p.width p.squares gap sides gap_read fits) p.width (stored.profile).filled;
    };
    outline = outline_laid p.width p.squares runs lowest.first lowest.end gap sides stored.outline lowest_stored.places lowest_stored.x
        lowest_stored.end lowest_stored.level gap_read fits good some;
  }

-- the depths that are read off
pub least_read : (p : Laid) (runs once twice : List OutlineRun) (places : ℕ × ℕ) → IsStoredProfile p runs → once ≡ runs → twice ≡ runs
    → IsLowest once (length once) places.0 places.1 → IsLeastDepth p (get_or twice places.0 no_run).level
least_read p runs once twice places stored e f lowest =
    subst (λ (l : List OutlineRun). IsLeastDepth p (get_or l places.0 no_run).level) (sym f)
    (least_depth p.width p.squares runs places.0 places.1 stored.outline (subst (λ (l : List OutlineRun). IsLowest l (length l) places.0 places.1) e lowest))

-- the greatest level of the stored runs is the greatest depth
pub greatest_read : (p : Laid) (runs once : List OutlineRun) (greatest : ℕ) → IsStoredProfile p runs → once ≡ runs
    → All (λ (r : OutlineRun). r.level ≤ greatest) once
    → (k : ℕ) × (k < length once) × HoldsAt (λ (r : OutlineRun). r.level ≡ greatest) once k → IsGreatestDepth p greatest
greatest_read p runs once greatest stored e most some =
    let at : (k : ℕ) × (k < length runs) × HoldsAt (λ (r : OutlineRun). r.level ≡ greatest) runs k =
    subst (λ (l : List OutlineRun). (k : ℕ) × (k < length l) × HoldsAt (λ (r : OutlineRun). r.level ≡ greatest) l k) e some in
    greatest_depth p.width p.squares runs at.0 greatest stored.outline
    (subst (λ (l : List OutlineRun). All (λ (r : OutlineRun). r.level ≤ greatest) l) e most) at.1 at.2
