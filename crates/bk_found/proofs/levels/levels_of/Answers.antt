use Rattle.std.specs.Int.{w64}
use Rattle.std.specs.Prelude.{pos, ℤ, ◌+ℤ◌}
use Rattle.std.proofs.Common.{arith, of_z, refl, slice_index_or, subst, sym, to_z, ◌*◌, ◌^◌, ◌<◌}
use Rattle.std.proofs.lemmas.Int.{ints}
use Rattle.std.proofs.lemmas.List.{get_or-replicate}
use Rattle.bk_found.proofs.LevelSteps.{fits_small, levelled_all, levelled_more, small_number_by_a_greater_bound, zero_is_a_small_number}
use Rattle.bk_found.specs.Placing.{IsSmallNumber}
use Rattle.bk_found.proofs.levels.levels_of.Goals as goal

pub loop-i-init : goal.loop-i-init
loop-i-init c = record {
  room = refl;
  small = λ v h. subst (λ (z : ℤ). IsSmallNumber (0 * 2 ^ 34) z) (sym (get_or-replicate 17 v (pos 0) (pos 0) h)) (zero_is_a_small_number (0 * 2 ^ 34));
  right = λ at are. (sym are.top, λ j h. absurd (omega (arith, h)));
}

pub overflow_add-level : goal.overflow_add-level
overflow_add-level c =
    let start : c.from.result < 17 = omega (arith, c.from.ensures, (c.requires.ends c.loop-i.i c.loop-i-test.true).0) in
    let a = small_number_by_a_greater_bound (c.loop-i.i * 2 ^ 34) (2 ^ 39) (slice_index_or c.loop-i.levels c.from.result (pos 0))
    (c.loop-i.invariant.small c.from.result start) (omega (arith, c.loop-i-test.true, c.requires.few)) in
    let b = c.requires.small c.loop-i.i (omega (arith, c.loop-i-test.true, c.requires.many)) in
    fits_small (2 ^ 40) _ (omega (arith, ints, a.0, a.1, b.0, b.1), omega (arith, ints, a.0, a.1, b.0, b.1)) (omega arith)

pub loop-i-preserved : goal.loop-i-preserved
loop-i-preserved c =
    let start : c.from.result < 17 = omega (arith, c.from.ensures, (c.requires.ends c.loop-i.i c.loop-i-test.true).0) in
    let a = small_number_by_a_greater_bound (c.loop-i.i * 2 ^ 34) (2 ^ 39) (slice_index_or c.loop-i.levels c.from.result (pos 0))
    (c.loop-i.invariant.small c.from.result start) (omega (arith, c.loop-i-test.true, c.requires.few)) in
    let b = c.requires.small c.loop-i.i (omega (arith, c.loop-i-test.true, c.requires.many)) in
    levelled_more c.args.wires.now c.args.currents.now c.loop-i.levels c.loop-i.i c.from.result c.from-in-loop-i.result
    (to_z w64 (of_z w64 (to_z w64 (of_z w64 (slice_index_or c.loop-i.levels c.from.result (pos 0))) +ℤ to_z w64
    (of_z w64 (slice_index_or c.args.currents.now c.loop-i.i (pos 0))))))
    c.loop-i.invariant c.loop-i-test.true c.requires.many c.requires.ends c.requires.small c.from.ensures c.from-in-loop-i.ensures
    (omega (arith, ints, a.0, a.1, b.0, b.1))

pub returns-clause-right : goal.returns-clause-right
returns-clause-right c = levelled_all c.args.wires.now c.args.currents.now c.loop-i.levels c.loop-i.i c.loop-i.invariant c.loop-i-test.false

pub returns-clause-small : goal.returns-clause-small
returns-clause-small c = λ v h. small_number_by_a_greater_bound (c.loop-i.i * 2 ^ 34) (16 * 2 ^ 34) (slice_index_or c.loop-i.levels v (pos 0))
    (c.loop-i.invariant.small v h)
    (omega (arith, c.loop-i.auto.i-end, c.requires.few))
