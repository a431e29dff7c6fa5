use Rattle.std.proofs.Common.{Contains, subst, ◌↔◌}
use Rattle.bk_packed.specs.KeptNumbers.{Numbers}
use Rattle.bk_packed.proofs.Keeping.{thinned}
use Rattle.bk_packed.proofs.number_table.NumberTable.sort_and_thin.Goals as goal

pub invariant_of-self : goal.invariant_of-self
invariant_of-self g c = thinned c.self.inside.numbers.items c.sort_and_thin.new.numbers.items c.self.inside.limit c.self.invariant c.sort_and_thin.ensures.same

pub returns-clause-same : goal.returns-clause-same
returns-clause-same g c x = subst (λ (t : Numbers). Contains c.sort_and_thin.new.numbers.items x ↔ Contains t.kept x)
    c.self.view_is (c.sort_and_thin.ensures.same x)
