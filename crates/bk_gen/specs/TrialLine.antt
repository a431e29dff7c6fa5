-- The line about the trial codes of a seed.
-- Example (TrialLineExamples): of no codes it is `trial seed 0 count 0 ok 0 perfect 0 simple 0 squares 0`.
use Rattle.std.specs.Prelude.{List, suc, zero, ℕ, ◌+◌, ◌≡◌}
use Rattle.bk_tiling.specs.Tiling.{Tiling, order}
use Rattle.bk_simple.specs.Simple.{IsPerfect, IsSimple}
use Rattle.bk_gen.specs.TrialCodes.{mixed, trial_tiling}
use Rattle.bk_report.specs.Trial.{trial_line}
use Rattle.bk_report.specs.declared.trial.TrialCounts.{TrialCounts}
use Rattle.bk_gen.specs.Counting.{HoldsAtSoMany}

-- the tiling of the trial code of a seed at a place
abbrev pub tiling_at : ℕ → ℕ → Tiling
tiling_at seed k = trial_tiling (mixed seed k)

-- how many squares the trial codes at the places below n have together
abbrev pub squares_below : ℕ → ℕ → ℕ
squares_below seed zero = 0
squares_below seed (suc n) = squares_below seed n + order (tiling_at seed n)

-- what is counted of the trial codes at the places below n: all of them are accepted
pub record IsTrialTally (seed n : ℕ) (counts : TrialCounts) : Type 0 where
  pub all_accepted : counts.accepted ≡ n
  pub perfects : HoldsAtSoMany (λ k. IsPerfect (tiling_at seed k)) n counts.perfect
  pub simples : HoldsAtSoMany (λ k. IsSimple (tiling_at seed k)) n counts.simple
  pub together : counts.squares ≡ squares_below seed n

-- trial: the line about the trial codes of a seed at the places below n
pub record IsTrialLine (seed n : ℕ) (bytes : List ℕ) : Type 0 where
  pub counts : TrialCounts
  pub tally : IsTrialTally seed n counts
  pub text : bytes ≡ trial_line seed n counts
