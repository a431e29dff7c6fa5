use Rattle.bk_sym.proofs.AlikeLaws.{one_canonical_means_alike as the_law}
use Rattle.bk_sym.proofs.laws.one_canonical_means_alike.Goals as goal

pub returns : goal.returns
returns c = the_law
