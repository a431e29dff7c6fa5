use Rattle.std.specs.Int.{w64}
use Rattle.std.specs.Prelude.{pos, ℤ, ◌+ℤ◌}
use Rattle.std.proofs.Common.{List, ap, arith, lit<, of_z, slice_index_or, subst, sym, to_z, ◌+◌, ◌*◌, ◌^◌, ◌∙◌, ◌≡◌}
use Rattle.std.proofs.lemmas.Int.{ints}
use Rattle.bk_found.proofs.LevelSteps.{AreEdges, edges_more, fits_small, held_still, line_is_found_where_it_lies, small_number_by_a_greater_bound}
use Rattle.bk_found.proofs.levels.rights_of.Goals as goal

pub overflow_add-right : goal.overflow_add-right
overflow_add-right c =
    let p = (line_is_found_where_it_lies c.args.lefts.now c.args.currents.now c.loop-i.rights.items c.deref.result.now (to_z w64 (of_z w64 c.args.total))
    c.line_place.result c.loop-i.i c.loop-i.invariant c.loop-i-test.true c.requires.few c.requires.known
    (held_still (2 ^ 34) c.args.total c.requires.total (omega arith)) c.deref.ensures.0 c.line_place.ensures).1 in
    let q = c.requires.small c.loop-i.i (omega (arith, c.loop-i-test.true, c.requires.many)) in
    fits_small (2 ^ 40) _ (omega (arith, ints, p.0, p.1, q.0, q.1), omega (arith, ints, p.0, p.1, q.0, q.1)) (omega arith)

pub loop-i-preserved : goal.loop-i-preserved
loop-i-preserved c =
    let found = line_is_found_where_it_lies c.args.lefts.now c.args.currents.now c.loop-i.rights.items c.deref.result.now (to_z w64 (of_z w64 c.args.total))
    c.line_place.result c.loop-i.i c.loop-i.invariant c.loop-i-test.true c.requires.few c.requires.known
    (held_still (2 ^ 34) c.args.total c.requires.total (omega arith)) c.deref.ensures.0 c.line_place.ensures in
    let p = found.1 in
    let q = c.requires.small c.loop-i.i (omega (arith, c.loop-i-test.true, c.requires.many)) in
    let right = to_z w64 (of_z w64 (to_z w64 (of_z w64 c.line_place.result) +ℤ to_z w64
    (of_z w64 (slice_index_or c.args.currents.now c.loop-i.i (pos 0))))) in
    let sum : to_z w64 (of_z w64 (to_z w64 (of_z w64 c.line_place.result) +ℤ to_z w64
    (of_z w64 (slice_index_or c.args.currents.now c.loop-i.i (pos 0))))) ≡ c.line_place.result +ℤ slice_index_or c.args.currents.now c.loop-i.i (pos 0)
    = omega (arith, ints, p.0, p.1, q.0, q.1) in
    subst (λ (rs : List ℤ). AreEdges c.args.lefts.now c.args.currents.now rs (to_z w64 (of_z w64 c.args.total)) (c.loop-i.i + 1)) (sym c.push.ensures.items)
    (edges_more c.args.lefts.now c.args.currents.now c.loop-i.rights.items (to_z w64 (of_z w64 c.args.total)) c.loop-i.i right c.loop-i.invariant
    c.loop-i-test.true c.requires.many c.requires.known c.requires.small (held_still (2 ^ 34) c.args.total c.requires.total (omega arith))
    (sum ∙ ap (λ (z : ℤ). z +ℤ slice_index_or c.args.currents.now c.loop-i.i (pos 0)) found.0))

pub push-requires : goal.push-requires
push-requires c = (lit< tt, omega (arith, c.loop-i.invariant.many, c.loop-i-test.true, c.requires.few))

pub returns-clause-many : goal.returns-clause-many
returns-clause-many c = omega (arith, c.loop-i.invariant.many, c.loop-i-test.false, c.loop-i.auto.i-end)

pub returns-clause-small : goal.returns-clause-small
returns-clause-small c = λ k h. small_number_by_a_greater_bound ((c.loop-i.i + 1) * 2 ^ 34) (17 * 2 ^ 34) (slice_index_or c.loop-i.rights.items k (pos 0))
    (c.loop-i.invariant.small k (omega (arith, h, c.loop-i.invariant.many))) (omega (arith, c.loop-i.auto.i-end, c.requires.few))
