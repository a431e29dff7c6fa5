use Rattle.std.proofs.Common.{rules}
use Rattle.bk_walk_cuts.proofs.asking.is_other.Goals as goal

pub returns-in-Unknown : goal.returns-in-Unknown
returns-in-Unknown c = search rules
