use Rattle.bk_word_net.proofs.WordFlows.NoLoose.{a_word_net_has_no_loose as the_law}
use Rattle.bk_word_net.proofs.laws.a_word_net_has_no_loose.Goals as goal

pub returns : goal.returns
returns c = the_law
