use Rattle.std.proofs.Common.{arith, rules}
use Rattle.std.proofs.lemmas.Grind.{common_steps}
use Rattle.bk_ask.proofs.words.words_of.Goals as goal

pub loop-word-init : goal.loop-word-init
loop-word-init c = search rules

pub loop-word-preserved : goal.loop-word-preserved
loop-word-preserved c = grind (arith, common_steps)
