use Rattle.std.proofs.Common.{rules}
use Rattle.bk_simple.proofs.first_twice.Goals as goal

pub returns-then-sides-i-clause-first : goal.returns-then-sides-i-clause-first
returns-then-sides-i-clause-first c = search rules

pub loop-i-preserved : goal.loop-i-preserved
loop-i-preserved c = search rules
