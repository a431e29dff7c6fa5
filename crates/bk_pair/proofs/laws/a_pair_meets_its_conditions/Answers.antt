use Rattle.bk_pair.proofs.OwnSides.{pairs_by_conditions}
use Rattle.bk_pair.proofs.laws.a_pair_meets_its_conditions.Goals as goal

pub returns : goal.returns
returns c = pairs_by_conditions
