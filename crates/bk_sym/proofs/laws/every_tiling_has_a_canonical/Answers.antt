use Rattle.bk_sym.proofs.GreatestImage.{every_tiling_has_a_canonical as the_law}
use Rattle.bk_sym.proofs.laws.every_tiling_has_a_canonical.Goals as goal

pub returns : goal.returns
returns c = the_law
