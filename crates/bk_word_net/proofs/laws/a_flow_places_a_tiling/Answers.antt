use Rattle.bk_word_net.proofs.PlacedSquares.FlowTilings.{a_flow_places_a_tiling as the_law}
use Rattle.bk_word_net.proofs.laws.a_flow_places_a_tiling.Goals as goal

pub returns : goal.returns
returns c = the_law
