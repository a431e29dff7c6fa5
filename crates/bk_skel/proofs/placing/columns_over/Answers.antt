use Rattle.std.proofs.lemmas.Grind.{common_steps}
use Rattle.std.proofs.Common.{arith}
use Rattle.bk_skel.proofs.placing.columns_over.Goals as goal

pub square_of-columns-requires : goal.square_of-columns-requires
square_of-columns-requires c = grind (arith, common_steps)

pub overflow_add-columns : goal.overflow_add-columns
overflow_add-columns c = grind (arith, common_steps)

pub loop-number-preserved : goal.loop-number-preserved
loop-number-preserved c = grind (arith, common_steps)

pub returns : goal.returns
returns c = grind (arith, common_steps)
