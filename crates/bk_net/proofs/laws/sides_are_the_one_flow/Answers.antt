use Rattle.bk_net.proofs.SidesFlow.{sides_are_the_one_flow as the_law}
use Rattle.bk_net.proofs.laws.sides_are_the_one_flow.Goals as goal

pub returns : goal.returns
returns c = the_law
