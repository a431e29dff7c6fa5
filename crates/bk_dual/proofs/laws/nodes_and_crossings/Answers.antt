use Rattle.bk_dual.proofs.NodesCounted.{nodes_and_crossings as the_law}
use Rattle.bk_dual.proofs.laws.nodes_and_crossings.Goals as goal

pub returns : goal.returns
returns c = the_law
