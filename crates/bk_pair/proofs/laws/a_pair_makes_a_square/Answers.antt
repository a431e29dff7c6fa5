use Rattle.bk_pair.proofs.PairSquares.{a_pair_makes_a_square as the_law}
use Rattle.bk_pair.proofs.laws.a_pair_makes_a_square.Goals as goal

pub returns : goal.returns
returns c = the_law
