use Rattle.bk_sym.proofs.AlikeLaws.{a_canonical_tiling_is_its_own as the_law}
use Rattle.bk_sym.proofs.laws.a_canonical_tiling_is_its_own.Goals as goal

pub returns : goal.returns
returns c = the_law
