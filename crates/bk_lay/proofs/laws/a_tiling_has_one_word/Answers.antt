use Rattle.bk_lay.proofs.Valleys.{a_tiling_has_one_word as one_word_law}
use Rattle.bk_lay.proofs.laws.a_tiling_has_one_word.Goals as goal

pub returns : goal.returns
returns c = one_word_law
