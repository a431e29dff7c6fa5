use Rattle.bk_word_net.proofs.WordFlows.NoLoose.{a_word_has_one_flow as the_law}
use Rattle.bk_word_net.proofs.laws.a_word_has_one_flow.Goals as goal

pub returns : goal.returns
returns c = the_law
