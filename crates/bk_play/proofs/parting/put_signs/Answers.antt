use Rattle.std.proofs.lemmas.Grind.{common_steps}
use Rattle.std.proofs.Common.{arith}
use Rattle.bk_play.proofs.parting.put_signs.Goals as goal

pub bounds-room-place : goal.bounds-room-place
bounds-room-place c = grind (arith, common_steps)

pub overflow_add-place : goal.overflow_add-place
overflow_add-place c = grind (arith, common_steps)

pub loop-sign-preserved : goal.loop-sign-preserved
loop-sign-preserved c = grind (arith, common_steps)

pub returns : goal.returns
returns c = grind (arith, common_steps)
