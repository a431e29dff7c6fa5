use Rattle.bk_forms.proofs.Adding.{addition_is_exact as the_law}
use Rattle.bk_forms.proofs.laws.an_addition_is_exact.Goals as goal

pub returns : goal.returns
returns c = the_law
