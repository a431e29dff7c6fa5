use Rattle.bk_lay.proofs.Words.{every_tiling_has_a_word as the_law}
use Rattle.bk_lay.proofs.laws.every_tiling_has_a_word.Goals as goal

pub returns : goal.returns
returns c = the_law
