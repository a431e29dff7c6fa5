use Rattle.bk_skel.proofs.NarrowWords.{no_small_word_is_wide as the_law}
use Rattle.bk_skel.proofs.laws.no_small_word_is_wide.Goals as goal

pub returns : goal.returns
returns c = the_law
