use Rattle.bk_sym.proofs.AlikeLaws.{alike_tilings_have_one_canonical as the_law}
use Rattle.bk_sym.proofs.laws.alike_tilings_have_one_canonical.Goals as goal

pub returns : goal.returns
returns c = the_law
