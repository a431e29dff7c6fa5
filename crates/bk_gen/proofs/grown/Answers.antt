use Rattle.std.proofs.Common.{arith, subst, sym, ◌+◌, ◌-◌, ◌∙◌}
use Rattle.bk_tiling.specs.Tiling.{Tiling}
use Rattle.bk_gen.proofs.UnderWay.{IsUnderWay, all_steps, under_way_end, under_way_more, under_way_stops}
use Rattle.bk_gen.proofs.grown.Goals as goal

pub loop-step-preserved : goal.loop-step-preserved
loop-step-preserved c =
    subst (λ (t : Tiling). IsUnderWay c.args.v (200 - c.order-step-end.result) (c.loop-step.step + 1) c.first_rectangle-growing.result t) (sym c.attach.ensures)
    (under_way_more c.args.v (200 - c.order-step-end.result) c.loop-step.step c.first_rectangle-growing.result c.loop-step.growing c.loop-step-test.true
    (omega (arith, c.if-next_side-gt-LONGEST_SIDE.false, c.next_side.ensures)) c.loop-step.invariant)

pub returns-then-next_side-gt-LONGEST_SIDE : goal.returns-then-next_side-gt-LONGEST_SIDE
returns-then-next_side-gt-LONGEST_SIDE c =
    under_way_stops c.args.v (200 - c.order-step-end.result) c.loop-step.step c.first_rectangle-growing.result c.loop-step.growing
    (omega (arith, c.if-next_side-gt-LONGEST_SIDE.true, c.next_side.ensures)) c.loop-step.invariant
    ∙ all_steps c.args.v c.order-step-end.result c.first_rectangle-growing.result c.order-step-end.ensures.value c.first_rectangle-growing.ensures

pub returns : goal.returns
returns c =
    under_way_end c.args.v (200 - c.order-step-end.result) c.loop-step.step c.first_rectangle-growing.result c.loop-step.growing c.loop-step-test.false
    c.loop-step.invariant
    ∙ all_steps c.args.v c.order-step-end.result c.first_rectangle-growing.result c.order-step-end.ensures.value c.first_rectangle-growing.ensures
