use Rattle.std.proofs.Common.{None}
use Rattle.bk_packed.proofs.number_table.NumberTable.clear.Goals as goal

pub returns : goal.returns
returns g c = λ i. record { kept = c.clear.ensures i; limit = None }
