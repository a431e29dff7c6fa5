use Rattle.bk_sym.proofs.Composing.{images_are_undone as the_law}
use Rattle.bk_sym.proofs.laws.images_are_undone.Goals as goal

pub returns : goal.returns
returns c = the_law
