use Rattle.std.proofs.Common.{ap, arith, subst, ◌∙◌}
use Rattle.bk_packed.specs.KeptNumbers.{AreAscendingNumbers, Numbers}
use Rattle.bk_walk.specs.Finding.{Finding, HasOnlyMembers}
use Rattle.bk_walk.proofs.member_table.MemberTable.numbers.Goals as goal

pub table-requires : goal.table-requires
table-requires g c = (omega (arith, g.N.fits), omega (arith, g.N.fits))

pub numbers-requires : goal.numbers-requires
numbers-requires g c = omega (arith, g.N.fits)

pub returns-clause-only : goal.returns-clause-only
returns-clause-only g c = subst HasOnlyMembers c.self.view_is c.table.ensures.only

pub returns-clause-value : goal.returns-clause-value
returns-clause-value g c = c.numbers.ensures ∙ ap (λ (n : Numbers). n.kept) c.table.ensures.value
    ∙ ap (λ (f : Finding). f.numbers.kept) c.self.view_is

pub returns-clause-ascending : goal.returns-clause-ascending
returns-clause-ascending g c = subst (λ (f : Finding). AreAscendingNumbers f.numbers.kept) c.self.view_is c.self.invariant.ascending
