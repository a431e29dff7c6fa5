use Rattle.bk_sym.proofs.Composing.{images_of_images as the_law}
use Rattle.bk_sym.proofs.laws.images_of_images.Goals as goal

pub returns : goal.returns
returns c = the_law
