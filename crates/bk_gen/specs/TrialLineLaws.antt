-- What the definition of the line comes to, and that trial codes are accepted. Statements alone; they are proved apart.
use Rattle.std.specs.Prelude.{List, ℕ, ◌≡◌}
use Rattle.bk_gen.specs.TrialCodes.{sample}
use Rattle.bk_profile.specs.Refused.{HasCode, IsRefused, first_sum}
use Rattle.bk_profile.specs.declared.laying.Refusal.{Refusal}
use Rattle.bk_gen.specs.TrialLine.{IsTrialLine, tiling_at}

-- a seed and a count have one line
abbrev pub ASeedHasOneLine : Type 0
ASeedHasOneLine = (seed n : ℕ) (line other : List ℕ) → IsTrialLine seed n line → IsTrialLine seed n other → line ≡ other

-- laying accepts each trial code: its tiling has the code, and under the sum of its first group laying never refuses it
abbrev pub ASampleIsLaid : Type 0
ASampleIsLaid = (seed k : ℕ) → HasCode (sample seed k) (tiling_at seed k)
    × ((refusal : Refusal) → ¬ IsRefused (first_sum (sample seed k)) (sample seed k) refusal)
