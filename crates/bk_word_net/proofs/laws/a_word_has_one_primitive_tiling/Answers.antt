use Rattle.bk_word_net.proofs.PlacedSquares.PrimitiveTiling.{a_word_has_one_primitive_tiling as the_law}
use Rattle.bk_word_net.proofs.laws.a_word_has_one_primitive_tiling.Goals as goal

pub returns : goal.returns
returns c = the_law
