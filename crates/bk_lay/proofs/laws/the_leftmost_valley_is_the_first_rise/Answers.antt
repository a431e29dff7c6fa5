use Rattle.bk_lay.proofs.Words.{leftmost_is_first_rise as first_rise_law}
use Rattle.bk_lay.proofs.laws.the_leftmost_valley_is_the_first_rise.Goals as goal

pub returns : goal.returns
returns c = first_rise_law
