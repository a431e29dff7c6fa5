use Rattle.std.proofs.Common.{refl, subst, sym}
use Rattle.std.specs.Prelude.{IsSome}
use Rattle.bk_packed.specs.KeptNumbers.{Holds}
use Rattle.bk_walk.specs.Finding.{Finding}
use Rattle.bk_walk.proofs.FoundMembers.{as_many_members, held_settled, only_same}
use Rattle.bk_walk.proofs.finding.Finder.sort_numbers.Goals as goal

pub invariant_of-self : goal.invariant_of-self
invariant_of-self g c = record {
  few = c.self.invariant.few;
  only = only_same before after refl c.sort_and_thin.ensures.same c.self.invariant.only;
  cut = λ some. as_many_members g.row.N before after refl (c.self.invariant.cut (subst IsSome c.sort_and_thin.ensures.limit some));
}
  where
    before : Finding
    before = record { order = c.self.inside.order; class = c.self.inside.class; from = c.self.inside.from; numbers = c.self.inside.table }

    after : Finding
    after = record { order = c.self.inside.order; class = c.self.inside.class; from = c.self.inside.from; numbers = c.sort_and_thin.new.self }

pub returns-clause-kept : goal.returns-clause-kept
returns-clause-kept g c x held = held_settled c.self.inside.table c.sort_and_thin.new.self c.sort_and_thin.ensures.same c.sort_and_thin.ensures.limit x
    (subst (λ (s : Finding). Holds s.numbers x) (sym c.self.view_is) held)
