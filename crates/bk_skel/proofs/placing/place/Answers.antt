use Rattle.std.proofs.lemmas.Grind.{common_steps}
use Rattle.std.proofs.Common.{arith, drop, refl, take, ◌+◌, ◌-◌, ◌∙◌}
use Rattle.bk_word_net.proofs.PlacedSquares.LaidOnce.{laid_once}
use Rattle.bk_skel.proofs.PlacingLoop.{placed_start}
use Rattle.bk_skel.proofs.PlacingStep.{end_can, end_is, first_is_there, sides_there, start_as, step_can, step_more, step_none, width_as}
use Rattle.bk_skel.proofs.placing.place.Goals as goal

pub slice_bounds-sum_of-end : goal.slice_bounds-sum_of-end
slice_bounds-sum_of-end c = first_is_there c.args.skel.now c.requires.closed c.args.sides.now c.requires.sides
    (omega (arith, c.requires.count, (c.moves-moves.ensures.kept).few)) c.requires.count c.record_at.result c.record_at.ensures c.from.result c.from.ensures

pub loop-i-init : goal.loop-i-init
loop-i-init c = record {
  width = width_as c.args.skel.now c.args.sides.now c.record_at.result c.from.result c.sum_of-width.result c.requires.closed.some c.record_at.ensures
      c.from.ensures c.sum_of-width.ensures.sum;
  to = start_as c.args.skel.now c.args.sides.now c.clear.new.self.items c.clear-2.new.self.items c.clear.ensures c.clear-2.ensures
      (placed_start c.args.sides.now c.requires.sides (omega (arith, c.requires.count, (c.moves-moves.ensures.kept).few)) c.args.skel.now
      c.requires.closed c.requires.count);
}

pub slice_bounds-new-end : goal.slice_bounds-new-end
slice_bounds-new-end c = omega (
  arith,
  sides_there c.args.skel.now (c.moves-moves.ensures.kept).legal c.args.sides.now c.requires.sides
      (omega (arith, c.requires.count, (c.moves-moves.ensures.kept).few)) c.loop-i.i
      (omega (arith, c.loop-i-test.true, c.moves-moves.ensures.value)) c.loop-i.laying.laid.items c.loop-i.laying.numbers.items c.loop-i.invariant.to
      c.record_at-noted.result c.record_at-noted.ensures,
  c.len-from.ensures.value,
  c.from-in-loop-i.ensures,
)

pub lay_move-requires : goal.lay_move-requires
lay_move-requires c = step_can c.args.skel.now (c.moves-moves.ensures.kept).legal c.args.sides.now c.requires.sides
    (omega (arith, c.requires.count, (c.moves-moves.ensures.kept).few)) c.loop-i.i
    (omega (arith, c.loop-i-test.true, c.moves-moves.ensures.value)) c.loop-i.laying.laid.items c.loop-i.laying.numbers.items c.loop-i.invariant.to
    c.record_at-noted.result c.record_at-noted.ensures c.loop-i.laying.width c.len-from.result c.from-in-loop-i.result c.from-first.result
    c.from-in-loop-i-2.result c.signs_at-signs.result.now
    (take (c.len-from.result + c.from-in-loop-i.result - c.len-from.result) (drop c.len-from.result c.args.sides.now))
    c.loop-i.invariant.width c.len-from.ensures.value c.from-in-loop-i.ensures c.from-first.ensures c.from-in-loop-i-2.ensures c.signs_at-signs.ensures refl

pub returns-then-not-lay_move-clause-only : goal.returns-then-not-lay_move-clause-only
returns-then-not-lay_move-clause-only c = step_none c.args.skel.now (c.moves-moves.ensures.kept).legal c.args.sides.now c.requires.sides
    (omega (arith, c.requires.count, (c.moves-moves.ensures.kept).few)) c.loop-i.i
    (omega (arith, c.loop-i-test.true, c.moves-moves.ensures.value)) c.loop-i.laying.laid.items c.loop-i.laying.numbers.items c.loop-i.invariant.to
    c.record_at-noted.result c.record_at-noted.ensures c.loop-i.laying.width c.len-from.result c.from-in-loop-i.result c.from-first.result
    c.from-in-loop-i-2.result c.signs_at-signs.result.now
    (take (c.len-from.result + c.from-in-loop-i.result - c.len-from.result) (drop c.len-from.result c.args.sides.now))
    c.loop-i.invariant.width c.len-from.ensures.value c.from-in-loop-i.ensures c.from-first.ensures c.from-in-loop-i-2.ensures
    c.signs_at-signs.ensures refl (c.lay_move.ensures.none c.if-not-lay_move.true)

pub loop-i-preserved : goal.loop-i-preserved
loop-i-preserved c = record {
  width = c.lay_move.ensures.width ∙ c.loop-i.invariant.width;
  to =
      step_more c.args.skel.now (c.moves-moves.ensures.kept).legal c.args.sides.now c.requires.sides
      (omega (arith, c.requires.count, (c.moves-moves.ensures.kept).few)) c.loop-i.i
      (omega (arith, c.loop-i-test.true, c.moves-moves.ensures.value)) c.loop-i.laying.laid.items c.loop-i.laying.numbers.items c.loop-i.invariant.to
      c.record_at-noted.result c.record_at-noted.ensures c.loop-i.laying.width c.len-from.result c.from-in-loop-i.result c.from-first.result
      c.from-in-loop-i-2.result c.signs_at-signs.result.now
      (take (c.len-from.result + c.from-in-loop-i.result - c.len-from.result) (drop c.len-from.result c.args.sides.now))
      c.loop-i.invariant.width c.len-from.ensures.value c.from-in-loop-i.ensures c.from-first.ensures c.from-in-loop-i-2.ensures
      c.signs_at-signs.ensures refl c.lay_move.new.laying.laid.items c.lay_move.new.laying.numbers.items (c.lay_move.ensures.fills c.if-not-lay_move.false)
      (c.lay_move.ensures.numbers c.if-not-lay_move.false);
}

pub close-requires : goal.close-requires
close-requires c = end_can c.args.skel.now c.requires.closed c.args.sides.now c.requires.sides
    (omega (arith, c.requires.count, (c.moves-moves.ensures.kept).few)) c.requires.count c.loop-i.i
    (omega (arith, c.loop-i-test.false, c.moves-moves.ensures.value)) c.loop-i.laying.laid.items c.loop-i.laying.numbers.items c.deref.result.now
    c.loop-i.invariant.to c.loop-i.laying.width c.loop-i.invariant.width c.deref.ensures.0

pub returns-clause-placed : goal.returns-clause-placed
returns-clause-placed c = end_is c.args.skel.now c.requires.closed c.args.sides.now c.requires.sides
    (omega (arith, c.requires.count, (c.moves-moves.ensures.kept).few)) c.requires.count c.loop-i.i
    (omega (arith, c.loop-i-test.false, c.moves-moves.ensures.value)) c.loop-i.laying.laid.items c.loop-i.laying.numbers.items c.deref.result.now
    c.loop-i.invariant.to c.loop-i.laying.width c.loop-i.invariant.width c.deref.ensures.0 c.close.new.tiling c.close.ensures

pub returns-clause-only : goal.returns-clause-only
returns-clause-only c u l = laid_once c.args.skel.now c.args.sides.now c.close.new.tiling u
    (end_is c.args.skel.now c.requires.closed c.args.sides.now c.requires.sides
    (omega (arith, c.requires.count, (c.moves-moves.ensures.kept).few)) c.requires.count c.loop-i.i
    (omega (arith, c.loop-i-test.false, c.moves-moves.ensures.value)) c.loop-i.laying.laid.items c.loop-i.laying.numbers.items c.deref.result.now
    c.loop-i.invariant.to c.loop-i.laying.width c.loop-i.invariant.width c.deref.ensures.0 c.close.new.tiling c.close.ensures) l

pub sum_of-width-requires-clause-few : goal.sum_of-width-requires-clause-few
sum_of-width-requires-clause-few c = grind (arith, common_steps)

pub sum_of-width-requires-clause-sides : goal.sum_of-width-requires-clause-sides
sum_of-width-requires-clause-sides c = grind (arith, common_steps)
