use Rattle.std.proofs.Common.{◌+◌, ◌∙◌, List, ℕ, length, sym, ap, arith, le_refl, Bool, Err, [], add-zero, refl, subst}
use Rattle.std.proofs.lemmas.List.{take_rest, length-drop, length-take-le}
use Rattle.std.proofs.lemmas.Result.{err_from_is_err_and}
use Rattle.bk_laws.proofs.Bytes.{appends-nothing}
use Rattle.bk_ports.specs.Answered.{CountFits}
use Rattle.bk_ports.specs.Lines.{kept_front}
use Rattle.bk_ports.proofs.Blocks.{all_lines_counted_with_no_feed_left, block_read_to_the_next_feed, first_feed, no_feed_where_no_first_is_found, open_all}
use Rattle.bk_ports.proofs.Blocks.{read_all, read_stopped}
use Rattle.bk_ports.proofs.block.enter_block.Goals as goal

pub returns-in_err-is_refused-clause-stopped : goal.returns-in_err-is_refused-clause-stopped
returns-in_err-is_refused-clause-stopped g c =
    let p = err_from_is_err_and c.from_residual.result c.from_residual.ensures.1 in
    rw (p.1, p.2)
    (read_stopped (record { enters = g.R.Register.enters; may_want = g.R.Register.may_want }) c.args.register.now
    c.args.kept.now.number c.args.kept.now.front.items c.args.block.now c.lines.register c.lines.kept.front.items
    c.lines.rest.now c.in-Some.end c.lines.kept.number _ _ _ c.lines.refused c.in_err-is_refused.field-0.0 c.lines.invariant.read
    (first_feed c.lines.rest.now c.in-Some.end c.in-Some.ensures)
    c.in_err-is_refused.ensures.stopped)

pub lines-preserved : goal.lines-preserved
lines-preserved g c = record {
  read =
      block_read_to_the_next_feed (record { enters = g.R.Register.enters; may_want = g.R.Register.may_want }) c.args.register.now c.args.kept.now.number
      c.args.kept.now.front.items c.args.block.now c.lines.register c.close_line.new.register
      c.lines.kept.front.items c.lines.rest.now c.close_line.new.kept.front.items _ c.in-Some.end c.lines.kept.number c.close_line.new.kept.number
      _ _ _ c.lines.refused c.in_ok-is_refused.is_refused c.lines.invariant.read (first_feed c.lines.rest.now c.in-Some.end c.in-Some.ensures)
      c.in_ok-is_refused.ensures.emptied
      (take_rest c.lines.rest.now (c.in-Some.end + 1)) c.in_ok-is_refused.ensures.next c.in_ok-is_refused.ensures.entered;
  shorter =
      let found = first_feed c.lines.rest.now c.in-Some.end c.in-Some.ensures in
      omega (
        arith,
        ap (λ (l : List ℕ). length l) (take_rest c.lines.rest.now (c.in-Some.end + 1)),
        length-drop (c.in-Some.end + 1) c.lines.rest.now,
        c.lines.invariant.shorter,
        c.in_ok-is_refused.ensures.next,
        found.within,
      );
  is_ready = c.in_ok-is_refused.ensures.ready;
  same_faults = c.in_ok-is_refused.ensures.count ∙ c.lines.invariant.same_faults;
}

pub returns-clause-entered : goal.returns-clause-entered
returns-clause-entered g c =
    read_all (record { enters = g.R.Register.enters; may_want = g.R.Register.may_want }) c.args.register.now
    c.args.kept.now.number c.args.kept.now.front.items c.args.block.now c.lines.register c.lines.kept.front.items
    c.lines.rest.now c.lines.kept.number _ _ c.lines.refused c.lines.invariant.read
    (no_feed_where_no_first_is_found c.lines.rest.now c.in_default.ensures)

pub returns-clause-number : goal.returns-clause-number
returns-clause-number g c =
    all_lines_counted_with_no_feed_left (record { enters = g.R.Register.enters; may_want = g.R.Register.may_want }) c.args.register.now
    c.args.kept.now.number c.args.kept.now.front.items c.args.block.now c.lines.register c.lines.kept.front.items
    c.lines.rest.now c.lines.kept.number _ _ c.lines.refused c.lines.invariant.read
    (no_feed_where_no_first_is_found c.lines.rest.now c.in_default.ensures)

pub returns-clause-front : goal.returns-clause-front
returns-clause-front g c =
    c.keep.ensures
    ∙ ap (λ (l : List ℕ). kept_front l)
    (sym (open_all (record { enters = g.R.Register.enters; may_want = g.R.Register.may_want }) c.args.register.now
    c.args.kept.now.number c.args.kept.now.front.items c.args.block.now c.lines.register c.lines.kept.front.items
    c.lines.rest.now c.lines.kept.number _ _ c.lines.refused c.lines.invariant.read
    (no_feed_where_no_first_is_found c.lines.rest.now c.in_default.ensures)))

pub close_line-requires-clause-ready : goal.close_line-requires-clause-ready
close_line-requires-clause-ready g c = c.lines.invariant.is_ready

pub close_line-requires-clause-early : goal.close_line-requires-clause-early
close_line-requires-clause-early g c = omega (arith, c.lines.invariant.shorter)

pub returns-clause-count : goal.returns-clause-count
returns-clause-count g c = c.lines.invariant.same_faults

pub returns-clause-ready : goal.returns-clause-ready
returns-clause-ready g c = c.lines.invariant.is_ready

pub returns-clause-early : goal.returns-clause-early
returns-clause-early g c = omega (arith, c.lines.invariant.shorter)

pub slice_bounds-close_line-end : goal.slice_bounds-close_line-end
slice_bounds-close_line-end g c =
    let found = first_feed c.lines.rest.now c.in-Some.end c.in-Some.ensures in
    sym (length-take-le c.in-Some.end c.lines.rest.now (omega (arith, found.within)))

pub returns-in_err-is_refused-clause-entered : goal.returns-in_err-is_refused-clause-entered
returns-in_err-is_refused-clause-entered g c = rw (err_from_is_err_and c.from_residual.result c.from_residual.ensures.1).1 tt

pub returns-in_err-is_refused-clause-ready : goal.returns-in_err-is_refused-clause-ready
returns-in_err-is_refused-clause-ready g c = rw (err_from_is_err_and c.from_residual.result c.from_residual.ensures.1).1 tt

pub returns-in_err-is_refused-clause-number : goal.returns-in_err-is_refused-clause-number
returns-in_err-is_refused-clause-number g c = rw (err_from_is_err_and c.from_residual.result c.from_residual.ensures.1).1 tt

pub returns-in_err-is_refused-clause-early : goal.returns-in_err-is_refused-clause-early
returns-in_err-is_refused-clause-early g c = rw (err_from_is_err_and c.from_residual.result c.from_residual.ensures.1).1 tt

pub returns-in_err-is_refused-clause-front : goal.returns-in_err-is_refused-clause-front
returns-in_err-is_refused-clause-front g c = rw (err_from_is_err_and c.from_residual.result c.from_residual.ensures.1).1 tt

pub overflow_add-rest : goal.overflow_add-rest
overflow_add-rest g c =
    let found = first_feed c.lines.rest.now c.in-Some.end c.in-Some.ensures in
    omega (arith, found.within)

pub slice_bounds-rest-count : goal.slice_bounds-rest-count
slice_bounds-rest-count g c =
    let found = first_feed c.lines.rest.now c.in-Some.end c.in-Some.ensures in
    omega (arith, found.within)

pub slice_bounds-rest-start : goal.slice_bounds-rest-start
slice_bounds-rest-start g c =
    let found = first_feed c.lines.rest.now c.in-Some.end c.in-Some.ensures in
    omega (arith, found.within)

pub slice_bounds-rest-end : goal.slice_bounds-rest-end
slice_bounds-rest-end g c = le_refl (length c.lines.rest.now)

pub lines-smaller : goal.lines-smaller
lines-smaller g c =
    let found = first_feed c.lines.rest.now c.in-Some.end c.in-Some.ensures in
    omega (
      arith,
      ap (λ (l : List ℕ). length l) (take_rest c.lines.rest.now (c.in-Some.end + 1)),
      length-drop (c.in-Some.end + 1) c.lines.rest.now,
      found.within,
    )

pub lines-init : goal.lines-init
lines-init g c = record {
  read = record {
    done = [];
    lines = refl;
    open_is = refl;
    count = sym (add-zero c.args.kept.now.number);
    entered = record { replies = []; each = refl; written = appends-nothing (g.O.Sink.written c.args.out.now); any = refl };
  };
  shorter = le_refl (c.args.kept.now.number + length c.args.block.now);
  is_ready = c.requires.ready;
  same_faults = refl;
}

pub returns-in_err-is_refused-clause-count : goal.returns-in_err-is_refused-clause-count
returns-in_err-is_refused-clause-count g c =
    let p = err_from_is_err_and c.from_residual.result c.from_residual.ensures.1 in
    rw (p.1, p.2)
    (subst (λ (n : ℕ). CountFits {T = Bool} n (g.O.Sink.faults c.close_line.new.out) (Err c.in_err-is_refused.field-0.0)) c.lines.invariant.same_faults
    c.in_err-is_refused.ensures.count)
