use Rattle.bk_word_net.proofs.PlacedSquares.PlacedWord.{a_word_of_a_tiling_is_placed as the_law}
use Rattle.bk_word_net.proofs.laws.a_word_of_a_tiling_is_placed.Goals as goal

pub returns : goal.returns
returns c = the_law
