use Rattle.bk_sym.proofs.CanonicalLaws.{a_canonical_tiling_is_one as the_law}
use Rattle.bk_sym.proofs.laws.a_canonical_tiling_is_one.Goals as goal

pub returns : goal.returns
returns c = the_law
