use Rattle.std.proofs.Common.{ap, arith}
use Rattle.bk_walk.specs.Finding.{Finding}
use Rattle.bk_walk.proofs.WholeTables.{table_of_none}
use Rattle.bk_walk.proofs.member_table.MemberTable.new.Goals as goal

pub new-requires : goal.new-requires
new-requires g c = (omega (arith, g.N.fits), omega arith)

pub invariant_of-result : goal.invariant_of-result
invariant_of-result g c = table_of_none c.new.result.finder (ap (λ (f : Finding). f.order) c.new.ensures)
    (ap (λ (f : Finding). f.numbers.kept) c.new.ensures)

pub returns : goal.returns
returns g c = c.new.ensures
