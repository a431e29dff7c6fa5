use Rattle.std.proofs.Common.{arith, length, refl, ◌∙◌}
use Rattle.std.proofs.lemmas.List.{at_drop_all}
use Rattle.std.specs.Prelude.{drop}
use Rattle.bk_alike.specs.Pairs.{all_pairs}
use Rattle.bk_alike.proofs.PairLoops.{few_so_far, pairs_broken, pairs_counted_with_one_item_more, pairs_more}
use Rattle.bk_alike.proofs.ListLoops.{lines_broken_by_a_failed_call}
use Rattle.bk_alike.proofs.WrittenLines.{lines_written_where_none_is_left, no_line_written_yet}
use Rattle.bk_laws.proofs.Outcomes.{if_ok-of_error}
use Rattle.bk_answer.proofs.Failing.{cause-of_error_later, cause-of_same}
use Rattle.bk_alike.proofs.pairs.write_all_pairs.Goals as goal

pub returns-in_err-more-clause-lines : goal.returns-in_err-more-clause-lines
returns-in_err-more-clause-lines g c =
    lines_broken_by_a_failed_call _ (all_pairs c.args.kind c.args.items.now) (g.O.Sink.written c.args.out.now) (g.O.Sink.written c.write_pairs_with.new.out)
    c.from_residual.result c.from_residual.ensures.1
    (pairs_broken c.args.kind c.args.items.now c.loop-i.i (g.O.Sink.written c.args.out.now) (g.O.Sink.written c.loop-i.out)
    (g.O.Sink.written c.write_pairs_with.new.out)
    (omega (arith, c.loop-i-test.true, c.len-i-end.ensures.value)) c.loop-i.invariant.written c.in_err-more.ensures.lines)

pub overflow_add-pairs : goal.overflow_add-pairs
overflow_add-pairs g c =
    omega (
      arith,
      few_so_far c.args.kind c.args.items.now c.loop-i.i c.loop-i.pairs c.in_ok-more.more
          (omega (arith, c.loop-i-test.true, c.len-i-end.ensures.value)) c.len-i-end.ensures.few c.loop-i.invariant.count c.in_ok-more.ensures.count,
    )

pub loop-i-preserved : goal.loop-i-preserved
loop-i-preserved g c = record {
  written =
      pairs_more c.args.kind c.args.items.now c.loop-i.i (g.O.Sink.written c.args.out.now) (g.O.Sink.written c.loop-i.out)
      (g.O.Sink.written c.write_pairs_with.new.out)
      (omega (arith, c.loop-i-test.true, c.len-i-end.ensures.value)) c.loop-i.invariant.written c.in_ok-more.ensures.lines;
  count =
      pairs_counted_with_one_item_more c.args.kind c.args.items.now c.loop-i.i c.loop-i.pairs c.in_ok-more.more
      (omega (arith, c.loop-i-test.true, c.len-i-end.ensures.value)) c.loop-i.invariant.count c.in_ok-more.ensures.count;
  same = c.in_ok-more.ensures.cause.ok ∙ c.loop-i.invariant.same;
}

pub loop-i-init : goal.loop-i-init
loop-i-init g c = record { written = no_line_written_yet _ _; count = omega arith; same = refl }

pub write_pairs_with-requires : goal.write_pairs_with-requires
write_pairs_with-requires g c = omega (arith, c.loop-i-test.true, c.len-i-end.ensures.value)

pub returns-in_err-more-clause-count : goal.returns-in_err-more-clause-count
returns-in_err-more-clause-count g c =
    if_ok-of_error _ c.from_residual.result _ c.from_residual.ensures.1

pub returns-in_err-more-clause-cause : goal.returns-in_err-more-clause-cause
returns-in_err-more-clause-cause g c =
    cause-of_error_later _ c.from_residual.result c.from_residual.ensures.1 c.loop-i.invariant.same c.in_err-more.ensures.cause

pub returns-clause-lines : goal.returns-clause-lines
returns-clause-lines g c =
    lines_written_where_none_is_left (all_pairs c.args.kind c.args.items.now)
    (all_pairs c.args.kind (drop c.loop-i.i c.args.items.now)) _ _ c.loop-i.invariant.written
    (at_drop_all (all_pairs c.args.kind) c.args.items.now c.loop-i.i (omega (arith, c.loop-i-test.false, c.len-i-end.ensures.value)))

pub returns-clause-count : goal.returns-clause-count
returns-clause-count g c =
    let none = at_drop_all (λ l. length (all_pairs c.args.kind l)) c.args.items.now c.loop-i.i
    (omega (arith, c.loop-i-test.false, c.len-i-end.ensures.value)) in
    omega (arith, c.loop-i.invariant.count, none)

pub returns-clause-cause : goal.returns-clause-cause
returns-clause-cause g c = cause-of_same c.loop-i.invariant.same
