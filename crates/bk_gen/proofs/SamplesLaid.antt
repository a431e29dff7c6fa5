-- Laying accepts each trial code.
use Rattle.std.proofs.Common.{refl, ℕ}
use Rattle.bk_code.proofs.CodeOfTiling.{code_some}
use Rattle.bk_gen.proofs.SampleLaws.{sample_kept}
use Rattle.bk_gen.specs.TrialCodes.{sample}
use Rattle.bk_profile.proofs.LayingSteps.{refused_has_none}
use Rattle.bk_profile.specs.Refused.{HasCode}
use Rattle.bk_gen.specs.TrialLine.{tiling_at}
use Rattle.bk_gen.specs.TrialLineLaws.{ASampleIsLaid}

has_code : (seed k : ℕ) → HasCode (sample seed k) (tiling_at seed k)
has_code seed k = record { tiling = (sample_kept seed k).tiling; code_is = refl }

-- each trial code is that of its tiling and laying never refuses it
pub a_sample_is_laid : ASampleIsLaid
a_sample_is_laid seed k = (
  has_code seed k,
  λ refusal refused. refused_has_none (sample seed k) refusal (code_some (tiling_at seed k) (sample_kept seed k).tiling) refused (tiling_at seed k)
      (has_code seed k),
)
