use Rattle.std.proofs.Common.{rules}
use Rattle.bk_walk_cuts.proofs.asking.contradicts_sign.Goals as goal

pub returns-in-Above-clause-meets : goal.returns-in-Above-clause-meets
returns-in-Above-clause-meets c = search rules
