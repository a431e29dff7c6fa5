use Rattle.std.specs.Prelude.{get_or, length, ◌+◌, ◌<◌, ◌≡◌, ◌≤◌}
use Rattle.std.proofs.Common.{arith}
use Rattle.std.proofs.lemmas.Bool.{false≢true}
use Rattle.bk_tiling.specs.Tiling.{IsTiling, Tiling}
use Rattle.bk_tiling.specs.declared.Square.{Square}
use Rattle.bk_simple.proofs.Seams.{run_more, run_start}
use Rattle.bk_simple.proofs.TopRuns.{begins_left, goes_past, none_beyond}
use Rattle.bk_laws.proofs.FixedWidths.{number_below_fits}
use Rattle.bk_simple.proofs.KeptEdges.{edges_of_kept_fit, end_from_column_fits, next_place_fits, place_in_memory_fits}
use Rattle.bk_simple.proofs.has_none_past.Goals as goal
use Rattle.bk_simple.proofs.has_none_past.Goals.{then-q-first-via-else-q-first+then-q-end, then-q-first-via-then-q-first}

abbrev none : Square
none = record { x = 0; y = 0; s = 0 }

pub loop-last-init : goal.loop-last-init
loop-last-init c =
    let t : Tiling = c.args.tiling.now in
    let tiling : IsTiling t = c.squares-squares.ensures.kept.tiling in
    rw c.squares-squares.ensures.value (record {
      run = run_start t tiling c.args.i none c.requires;
      past = λ r part first wide. omega (arith, begins_left t tiling c.args.i none r part first, wide);
    })

pub returns-then-q-first : goal.returns-then-q-first
returns-then-q-first c is r part first wide =
    let t : Tiling = c.args.tiling.now in
    let tiling : IsTiling t = c.squares-squares.ensures.kept.tiling in
    let within = none_beyond t tiling c.args.i none c.loop-last.last c.loop-last.end c.loop-last.invariant.run (λ few level begins. elim c.then-q-first.branch [
      | then-q-first-via-then-q-first w ↦ (rw c.squares-squares.ensures.value at w.if-q-first.true) level
      | then-q-first-via-else-q-first+then-q-end w ↦ (rw c.squares-squares.ensures.value at w.if-q-end.true) begins
    ]) r part first in
    omega (arith, within, c.loop-last.invariant.past r part first wide)

pub loop-last-preserved : goal.loop-last-preserved
loop-last-preserved c =
    let t : Tiling = c.args.tiling.now in
    let tiling : IsTiling t = c.squares-squares.ensures.kept.tiling in
    let few : c.loop-last.last < length t.squares = rw c.squares-squares.ensures.value at c.loop-last-test.true in
    let level : (get_or t.squares c.loop-last.last none).y ≡ (get_or t.squares c.args.i none).y =
    rw c.squares-squares.ensures.value at c.if-q-first.false in
    let begins : (get_or t.squares c.loop-last.last none).x ≡ c.loop-last.end = rw c.squares-squares.ensures.value at c.if-q-end.false in
    rw c.squares-squares.ensures.value (record {
      run = run_more t tiling c.args.i none c.loop-last.last c.loop-last.end c.loop-last.invariant.run few level begins;
      past = λ r part first wide.
          let far : c.loop-last.end + (get_or t.squares c.loop-last.last none).s ≤ r.x + r.width =
          goes_past t tiling c.args.i none c.loop-last.last c.loop-last.end c.loop-last.invariant.run few level begins r part first
          (c.loop-last.invariant.past r part first wide) in
          let other : r.x + r.width ≡ c.loop-last.end + (get_or t.squares c.loop-last.last none).s → ⊥ =
          λ e. c.has_none_under.ensures c.if-not-has_none_under.false r part first (omega (arith, e, begins)) in
          omega (arith, far, other);
    })

pub returns : goal.returns
returns c is r part first wide =
    let t : Tiling = c.args.tiling.now in
    let tiling : IsTiling t = c.squares-squares.ensures.kept.tiling in
    let all = rw c.squares-squares.ensures.value at c.loop-last-test.false in
    let within = none_beyond t tiling c.args.i none c.loop-last.last c.loop-last.end c.loop-last.invariant.run
    (λ few level begins. omega (arith, few, all)) r part first in
    omega (arith, within, c.loop-last.invariant.past r part first wide)

pub offset_bounds-squares-i : goal.offset_bounds-squares-i
offset_bounds-squares-i c = place_in_memory_fits c.args.tiling.now c.squares-squares.ensures.kept c.args.i c.requires

pub bounds-squares-i : goal.bounds-squares-i
bounds-squares-i c = rw c.squares-squares.ensures.value c.requires

pub overflow_add-end : goal.overflow_add-end
overflow_add-end c = rw c.squares-squares.ensures.value (number_below_fits
    (edges_of_kept_fit c.args.tiling.now c.squares-squares.ensures.kept c.args.i none c.requires).1)

pub overflow_step-last : goal.overflow_step-last
overflow_step-last c = next_place_fits c.args.tiling.now c.squares-squares.ensures.kept c.args.i c.requires

pub offset_bounds-squares-last : goal.offset_bounds-squares-last
offset_bounds-squares-last c =
    place_in_memory_fits c.args.tiling.now c.squares-squares.ensures.kept c.loop-last.last (rw c.squares-squares.ensures.value at c.loop-last-test.true)

pub bounds-squares-last : goal.bounds-squares-last
bounds-squares-last c = c.loop-last-test.true

pub overflow_add-end-in-loop-last : goal.overflow_add-end-in-loop-last
overflow_add-end-in-loop-last c =
    rw c.squares-squares.ensures.value (end_from_column_fits _ _ (rw c.squares-squares.ensures.value at c.if-q-end.false)
    (edges_of_kept_fit c.args.tiling.now c.squares-squares.ensures.kept c.loop-last.last none (rw c.squares-squares.ensures.value at c.loop-last-test.true)))

pub has_none_under-requires-clause-places : goal.has_none_under-requires-clause-places
has_none_under-requires-clause-places c = (c.loop-last.invariant.run.some, rw c.squares-squares.ensures.value at c.loop-last-test.true)

pub has_none_under-requires-clause-level : goal.has_none_under-requires-clause-level
has_none_under-requires-clause-level c = rw c.squares-squares.ensures.value at c.if-q-first.false

pub returns-then-not-has_none_under : goal.returns-then-not-has_none_under
returns-then-not-has_none_under c = λ e. absurd (false≢true e)
