use Rattle.std.proofs.Common.{ap, arith, refl, sum, ℕ, ◌∙◌}
use Rattle.std.proofs.lemmas.List.{take_all}
use Rattle.std.proofs.lemmas.List.Elements.{All-from_recursion}
use Rattle.std.proofs.lemmas.List.Sums.{sum_by_more}
use Rattle.bk_tiling.specs.KeptTiling.{IsSide}
use Rattle.bk_tiling.proofs.hanging.sum_of.Goals as goal

pub loop-side-init : goal.loop-side-init
loop-side-init c = record { total = refl; small = omega arith }

pub overflow_add-total : goal.overflow_add-total
overflow_add-total c =
    omega (
      arith,
      c.loop-side.invariant.small,
      c.loop-side-test.true,
      c.requires.few,
      All-from_recursion IsSide c.args.sides.now c.requires.sides c.loop-side.side-index 0 c.loop-side-test.true,
    )

pub loop-side-preserved : goal.loop-side-preserved
loop-side-preserved c = record {
  total = omega (arith, c.loop-side.invariant.total, sum_by_more (λ (n : ℕ). n) c.args.sides.now c.loop-side.side-index 0 c.loop-side-test.true);
  small = omega (
    arith,
    c.loop-side.invariant.small,
    All-from_recursion IsSide c.args.sides.now c.requires.sides c.loop-side.side-index 0 c.loop-side-test.true,
  );
}

pub returns-clause-sum : goal.returns-clause-sum
returns-clause-sum c = c.loop-side.invariant.total ∙ ap sum (take_all c.loop-side.side-index c.args.sides.now c.loop-side-test.false)
