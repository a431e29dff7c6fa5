use Rattle.std.proofs.Common.{rules}
use Rattle.bk_net.proofs.reader.with_digit.Goals as goal

pub returns-then-value-lt100 : goal.returns-then-value-lt100
returns-then-value-lt100 c = search rules
