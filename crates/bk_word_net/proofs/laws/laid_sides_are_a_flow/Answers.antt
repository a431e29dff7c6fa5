use Rattle.bk_word_net.proofs.WordFlows.LaidFlow.{laid_sides_are_a_flow as the_law}
use Rattle.bk_word_net.proofs.laws.laid_sides_are_a_flow.Goals as goal

pub returns : goal.returns
returns c = the_law
