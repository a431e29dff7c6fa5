use Rattle.bk_word_net.proofs.WordFlows.Renumbering.{word_net_is_smith_diagram as the_law}
use Rattle.bk_word_net.proofs.laws.a_word_net_is_the_smith_diagram.Goals as goal

pub returns : goal.returns
returns c = the_law
