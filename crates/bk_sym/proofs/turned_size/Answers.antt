use Rattle.std.proofs.Common.{rules}
use Rattle.bk_sym.proofs.turned_size.Goals as goal

pub returns-in-Swap : goal.returns-in-Swap
returns-in-Swap c = search rules
