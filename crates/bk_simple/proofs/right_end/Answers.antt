use Rattle.std.proofs.Common.{arith}
use Rattle.bk_tiling.specs.declared.Square.{Square}
use Rattle.bk_simple.proofs.Seams.{none_wider, run_more, run_start}
use Rattle.bk_laws.proofs.FixedWidths.{number_below_fits}
use Rattle.bk_simple.proofs.KeptEdges.{edges_of_kept_fit, end_from_column_fits, next_place_fits, place_in_memory_fits}
use Rattle.bk_simple.proofs.right_end.Goals as goal
use Rattle.bk_simple.proofs.right_end.Goals.{then-q-first-via-else-q-first+then-q-end, then-q-first-via-then-q-first}

abbrev none : Square
none = record { x = 0; y = 0; s = 0 }

pub returns-then-q-first : goal.returns-then-q-first
returns-then-q-first c =
    none_wider c.args.tiling.now c.squares-squares.ensures.kept.tiling c.args.i none c.loop-k.k c.loop-k.end c.loop-k.invariant
    (λ few level begins. elim c.then-q-first.branch [
      | then-q-first-via-then-q-first w ↦ (rw c.squares-squares.ensures.value at w.if-q-first.true) level
      | then-q-first-via-else-q-first+then-q-end w ↦ (rw c.squares-squares.ensures.value at w.if-q-end.true) begins
    ])

pub returns : goal.returns
returns c =
    none_wider c.args.tiling.now c.squares-squares.ensures.kept.tiling c.args.i none c.loop-k.k c.loop-k.end c.loop-k.invariant
    (λ few level begins. omega (arith, few, c.loop-k-test.false, c.order-k-end.ensures.value))

pub offset_bounds-squares-i : goal.offset_bounds-squares-i
offset_bounds-squares-i c = place_in_memory_fits c.args.tiling.now c.squares-squares.ensures.kept c.args.i c.requires

pub bounds-squares-i : goal.bounds-squares-i
bounds-squares-i c = rw c.squares-squares.ensures.value c.requires

pub overflow_add-end : goal.overflow_add-end
overflow_add-end c = rw c.squares-squares.ensures.value (number_below_fits
    (edges_of_kept_fit c.args.tiling.now c.squares-squares.ensures.kept c.args.i none c.requires).1)

pub overflow_step-k : goal.overflow_step-k
overflow_step-k c = next_place_fits c.args.tiling.now c.squares-squares.ensures.kept c.args.i c.requires

pub loop-k-init : goal.loop-k-init
loop-k-init c = rw c.squares-squares.ensures.value (run_start c.args.tiling.now c.squares-squares.ensures.kept.tiling c.args.i none c.requires)

pub offset_bounds-squares-k : goal.offset_bounds-squares-k
offset_bounds-squares-k c = place_in_memory_fits c.args.tiling.now c.squares-squares.ensures.kept c.loop-k.k
    (rw c.order-k-end.ensures.value at c.loop-k-test.true)

pub bounds-squares-k : goal.bounds-squares-k
bounds-squares-k c = rw c.squares-squares.ensures.value (rw c.order-k-end.ensures.value at c.loop-k-test.true)

pub overflow_add-end-in-loop-k : goal.overflow_add-end-in-loop-k
overflow_add-end-in-loop-k c =
    rw c.squares-squares.ensures.value (end_from_column_fits _ _ (rw c.squares-squares.ensures.value at c.if-q-end.false)
    (edges_of_kept_fit c.args.tiling.now c.squares-squares.ensures.kept c.loop-k.k none (rw c.order-k-end.ensures.value at c.loop-k-test.true)))

pub loop-k-preserved : goal.loop-k-preserved
loop-k-preserved c =
    rw c.squares-squares.ensures.value
    (run_more c.args.tiling.now c.squares-squares.ensures.kept.tiling c.args.i none c.loop-k.k c.loop-k.end c.loop-k.invariant
    (rw c.order-k-end.ensures.value at c.loop-k-test.true)
    (rw c.squares-squares.ensures.value at c.if-q-first.false) (rw c.squares-squares.ensures.value at c.if-q-end.false))
