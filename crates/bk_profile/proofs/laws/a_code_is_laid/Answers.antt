use Rattle.bk_profile.proofs.CodeLaying.{a_code_is_laid}
use Rattle.bk_profile.proofs.laws.a_code_is_laid.Goals as goal

pub returns : goal.returns
returns c t tiling = a_code_is_laid t tiling
