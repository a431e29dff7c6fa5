use Rattle.std.proofs.Common.{ap, arith, length, length-take-le, refl, sym, take, take_all, ◌∙◌}
use Rattle.std.proofs.lemmas.List.{take-take}
use Rattle.bk_short.specs.Short.{Short}
use Rattle.bk_short.proofs.Short.truncate.Goals as goal

pub invariant_of-self : goal.invariant_of-self
invariant_of-self g c = (omega (arith, c.if-len-self.true, c.self.invariant.0), c.self.invariant.1)

pub same-self : goal.same-self
same-self g c = refl

pub returns-then-len-self : goal.returns-then-len-self
returns-then-len-self g c = sym (take-take c.args.len c.self.inside.len c.self.inside.cells (omega (arith, c.if-len-self.true)))
    ∙ ap (λ (s : Short g.row.T.Denot). take c.args.len s.items) c.self.view_is

pub returns-else-len-self : goal.returns-else-len-self
returns-else-len-self g c = sym (take_all c.args.len c.args.self.now.items (omega (
  arith,
  c.if-len-self.false,
  ap (λ (s : Short g.row.T.Denot). length s.items) c.self.view_is,
  length-take-le c.self.inside.len c.self.inside.cells (omega (arith, c.self.invariant.0, c.self.invariant.1)),
)))
