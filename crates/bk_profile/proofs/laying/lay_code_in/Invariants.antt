use Rattle.bk_profile.proofs.LayingSteps.{FirstLaid}
use Rattle.bk_profile.proofs.laying.lay_code_in.Given as goal

abbrev pub invariant-loop-g : goal.invariant-loop-g
invariant-loop-g l = FirstLaid l.code l.g l.profile
