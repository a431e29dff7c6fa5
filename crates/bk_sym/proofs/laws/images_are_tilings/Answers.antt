use Rattle.bk_sym.proofs.Images.{images_are_tilings as the_law}
use Rattle.bk_sym.proofs.laws.images_are_tilings.Goals as goal

pub returns : goal.returns
returns c = the_law
