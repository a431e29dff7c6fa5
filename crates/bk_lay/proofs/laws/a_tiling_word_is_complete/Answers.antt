use Rattle.bk_lay.proofs.WordPlay.{tiling_word_is_complete as the_law}
use Rattle.bk_lay.proofs.laws.a_tiling_word_is_complete.Goals as goal

pub returns : goal.returns
returns c = the_law
