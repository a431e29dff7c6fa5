use Rattle.bk_word_net.proofs.PlacedSquares.FlowTilings.{a_primitive_flow_is_a_primitive_tiling as the_law}
use Rattle.bk_word_net.proofs.laws.a_primitive_flow_is_a_primitive_tiling.Goals as goal

pub returns : goal.returns
returns c = the_law
