use Rattle.std.proofs.lemmas.Grind.{common_steps}
use Rattle.std.proofs.Common.{List, ap, arith, length, lit<, map, pos, subst, sym, ℕ}
use Rattle.std.specs.List.{AllByRecursion}
use Rattle.bk_tiling.specs.KeptTiling.{IsSide}
use Rattle.bk_skel.proofs.realising.sides_of.Goals as goal

pub returns-then-current-lt1-clause-none : goal.returns-then-current-lt1-clause-none
returns-then-current-lt1-clause-none c = grind (arith, common_steps)

pub loop-current-preserved : goal.loop-current-preserved
loop-current-preserved c = grind (arith, common_steps)

pub returns-clause-currents : goal.returns-clause-currents
returns-clause-currents c = grind (arith, common_steps)

pub new-sides-requires : goal.new-sides-requires
new-sides-requires c = lit< tt

pub loop-current-init : goal.loop-current-init
loop-current-init c = record {
  count = ap length c.new-sides.ensures;
  sides = subst (AllByRecursion IsSide) (sym c.new-sides.ensures) tt;
  currents = ap (λ (s : List ℕ). map pos s) (sym c.new-sides.ensures);
}

pub push-requires : goal.push-requires
push-requires c = (lit< tt, omega (arith, c.loop-current.invariant.count, c.loop-current-test.true, c.requires.few))

pub returns-clause-sides : goal.returns-clause-sides
returns-clause-sides c = c.loop-current.invariant.sides
