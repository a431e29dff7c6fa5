use Rattle.std.proofs.Common.{rules}
use Rattle.bk_found.proofs.placing.has_zero.Goals as goal

pub returns : goal.returns
returns c = search rules
