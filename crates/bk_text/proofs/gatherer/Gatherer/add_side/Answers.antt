use Rattle.std.proofs.Common.{rules}
use Rattle.bk_text.proofs.gatherer.Gatherer.add_side.Goals as goal

pub invariant_of-self-else-flat-len-lt-MOST_SQUARES : goal.invariant_of-self-else-flat-len-lt-MOST_SQUARES
invariant_of-self-else-flat-len-lt-MOST_SQUARES c = search rules

pub returns-else-flat-len-lt-MOST_SQUARES : goal.returns-else-flat-len-lt-MOST_SQUARES
returns-else-flat-len-lt-MOST_SQUARES c = search rules
