use Rattle.bk_code.proofs.CodesOrdered.{codes_are_ordered}
use Rattle.bk_code.proofs.laws.codes_are_ordered.Goals as goal

pub returns : goal.returns
returns c = codes_are_ordered
