use Rattle.std.proofs.Common.{arith, refl, rules, subst, ◌≡◌}
use Rattle.bk_tiling.specs.Tiling.{order}
use Rattle.bk_simple.proofs.PartTrials.{NoneBefore, simple_from_none}
use Rattle.bk_simple.proofs.part.Goals as goal

pub returns-clause-simple : goal.returns-clause-simple
returns-clause-simple c =
    let e : c.loop-i.i ≡ order c.args.tiling.now = omega (arith, c.order-i-end.ensures.value) in
    ((λ _. simple_from_none c.args.tiling.now c.order-i-end.ensures.kept.tiling (subst (NoneBefore c.args.tiling.now) e c.loop-i.invariant)), (λ _. refl))

pub returns-in-Some-clause-first : goal.returns-in-Some-clause-first
returns-in-Some-clause-first c = search rules

pub loop-i-preserved : goal.loop-i-preserved
loop-i-preserved c = search rules
