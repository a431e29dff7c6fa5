use Rattle.std.proofs.Common.{length}
use Rattle.bk_profile.proofs.FlatSteps.{Dividing}
use Rattle.bk_profile.proofs.dividing.lay_flat_in.Given as goal

abbrev pub invariant-loop-rest : goal.invariant-loop-rest
invariant-loop-rest l = Dividing l.width l.sides l.group l.profile l.rest

abbrev pub decreases-loop-rest : goal.decreases-loop-rest
decreases-loop-rest l = length l.rest
