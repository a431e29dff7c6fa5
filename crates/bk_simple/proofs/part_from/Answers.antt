use Rattle.std.proofs.Common.{arith, get_or, length, subst, ◌<◌, ◌≡◌}
use Rattle.bk_tiling.specs.Tiling.{order}
use Rattle.bk_simple.proofs.PartTrials.{NoneBelow, first_from, no_part_begins_where_none_ends, none_below_start}
use Rattle.bk_tiling.specs.declared.Square.{Square}
use Rattle.bk_simple.proofs.Reaching.{no_part_begins_where_squares_are_too_low}
use Rattle.bk_simple.proofs.Seams.{none_higher}
use Rattle.bk_simple.specs.Border.{rectangle_of}
use Rattle.bk_simple.proofs.KeptEdges.{next_place_fits, place_in_memory_fits}
use Rattle.bk_simple.proofs.part_from.Goals as goal

abbrev none : Square
none = record { x = 0; y = 0; s = 0 }

pub returns-then-crosses-clause-none : goal.returns-then-crosses-clause-none
returns-then-crosses-clause-none c =
    let hangs = rw c.squares-squares.ensures.value at c.crosses.ensures.0 c.if-crosses.true in
    let few : c.loop-j.j < length c.args.tiling.now.squares = omega (arith, c.loop-j-test.true, c.order-j-end.ensures.value) in
    let behind : c.args.i < c.loop-j.j = omega arith in
    no_part_begins_where_squares_are_too_low c.args.tiling.now c.squares-squares.ensures.kept.tiling c.args.i none c.right_end-end.result
    (get_or c.args.tiling.now.squares c.loop-j.j none).y c.right_end-end.ensures
    (none_higher c.args.tiling.now c.squares-squares.ensures.kept.tiling c.args.i none c.loop-j.j c.args.tiling.now.height behind few hangs.0 hangs.1)
    c.loop-j.j c.loop-j.invariant few (omega arith)

pub loop-j-init : goal.loop-j-init
loop-j-init c = none_below_start c.args.tiling.now c.args.i c.order-j-end.ensures.kept.tiling

pub returns-clause-none : goal.returns-clause-none
returns-clause-none c =
    let e : c.loop-j.j ≡ order c.args.tiling.now = omega (arith, c.order-j-end.ensures.value) in
    no_part_begins_where_none_ends c.args.tiling.now c.args.i c.order-j-end.ensures.kept.tiling
    (subst (NoneBelow c.args.tiling.now c.args.i) e c.loop-j.invariant)

pub right_end-end-requires : goal.right_end-end-requires
right_end-end-requires c = c.requires

pub overflow_step-j : goal.overflow_step-j
overflow_step-j c = next_place_fits c.args.tiling.now c.squares-squares.ensures.kept c.args.i c.requires

pub offset_bounds-squares-j : goal.offset_bounds-squares-j
offset_bounds-squares-j c = place_in_memory_fits c.args.tiling.now c.squares-squares.ensures.kept c.loop-j.j
    (rw c.order-j-end.ensures.value at c.loop-j-test.true)

pub bounds-squares-j : goal.bounds-squares-j
bounds-squares-j c = rw c.squares-squares.ensures.value (rw c.order-j-end.ensures.value at c.loop-j-test.true)

pub offset_bounds-squares-i : goal.offset_bounds-squares-i
offset_bounds-squares-i c = place_in_memory_fits c.args.tiling.now c.squares-squares.ensures.kept c.args.i c.requires

pub bounds-squares-i : goal.bounds-squares-i
bounds-squares-i c = rw c.squares-squares.ensures.value c.requires

pub part_at-requires-clause-first : goal.part_at-requires-clause-first
part_at-requires-clause-first c = c.requires

pub part_at-requires-clause-last : goal.part_at-requires-clause-last
part_at-requires-clause-last c = rw c.order-j-end.ensures.value at c.loop-j-test.true

pub part_at-requires-clause-right : goal.part_at-requires-clause-right
part_at-requires-clause-right c = c.right_end-end.ensures

pub returns-in-Some-clause-first : goal.returns-in-Some-clause-first
returns-in-Some-clause-first c =
    first_from c.args.tiling.now c.args.i c.loop-j.j (rectangle_of c.in-Some.found) c.loop-j.invariant c.in-Some.ensures.part
