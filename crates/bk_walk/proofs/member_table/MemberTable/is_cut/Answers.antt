use Rattle.std.specs.Prelude.{is_some}
use Rattle.std.proofs.Common.{ap, arith, subst, sym, ◌∙◌}
use Rattle.bk_packed.specs.KeptNumbers.{Numbers}
use Rattle.bk_walk.specs.Finding.{Finding, HasMoreMembers}
use Rattle.bk_walk.proofs.member_table.MemberTable.is_cut.Goals as goal

pub table-requires : goal.table-requires
table-requires g c = (omega (arith, g.N.fits), omega (arith, g.N.fits))

pub is_cut-requires : goal.is_cut-requires
is_cut-requires g c = omega (arith, g.N.fits)

pub returns-clause-full : goal.returns-clause-full
returns-clause-full g c full = subst (HasMoreMembers g.row.N) c.self.view_is
    (c.table.ensures.full (sym (ap (λ (n : Numbers). is_some n.limit) c.table.ensures.value) ∙ sym c.is_cut.ensures ∙ full))

pub returns-clause-value : goal.returns-clause-value
returns-clause-value g c = c.is_cut.ensures ∙ ap (λ (n : Numbers). is_some n.limit) c.table.ensures.value
    ∙ ap (λ (f : Finding). is_some f.numbers.limit) c.self.view_is
