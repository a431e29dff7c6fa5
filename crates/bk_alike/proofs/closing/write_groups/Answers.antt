use Rattle.std.specs.List.{flat_map}
use Rattle.std.proofs.Common.{arith, refl, subst, ℕ, ◌<◌, ◌∙◌}
use Rattle.std.proofs.lemmas.List.{at_drop_all}
use Rattle.std.specs.Prelude.{drop}
use Rattle.bk_alike.specs.Alike.{sizes}
use Rattle.bk_alike.specs.GroupsEnd.{group_lines}
use Rattle.bk_alike.proofs.ListLoops.{lines_broken_by_a_failed_call, loop_broken, loop_more}
use Rattle.bk_alike.proofs.GroupMembers.{length-groups, size_within}
use Rattle.bk_alike.proofs.WrittenLines.{item_at, lines_written_where_none_is_left, no_line_written_yet}
use Rattle.bk_answer.proofs.Failing.{cause-of_error_later, cause-of_same}
use Rattle.bk_alike.proofs.closing.write_groups.Goals as goal

pub returns-in_err-write_one_group-clause-lines : goal.returns-in_err-write_one_group-clause-lines
returns-in_err-write_one_group-clause-lines g c =
    let below = size_within c.args.items.now c.loop-g.g (subst (λ (n : ℕ). c.loop-g.g < n) c.groups-g-end.ensures c.loop-g-test.true) in
    let at = item_at (sizes c.args.items.now) c.loop-g.g below in
    lines_broken_by_a_failed_call _ (flat_map (group_lines c.args.items.now) (sizes c.args.items.now)) (g.O.Sink.written c.args.out.now)
    (g.O.Sink.written c.write_one_group.new.out) c.from_residual.result c.from_residual.ensures.1
    (loop_broken (group_lines c.args.items.now) (flat_map (group_lines c.args.items.now) (sizes c.args.items.now)) (sizes c.args.items.now) c.loop-g.g
    at.item (g.O.Sink.written c.args.out.now) (g.O.Sink.written c.loop-g.out) (g.O.Sink.written c.write_one_group.new.out)
    below at.here c.loop-g.invariant.written (c.in_err-write_one_group.ensures.lines at.item at.here))

pub loop-g-preserved : goal.loop-g-preserved
loop-g-preserved g c =
    let below = size_within c.args.items.now c.loop-g.g (subst (λ (n : ℕ). c.loop-g.g < n) c.groups-g-end.ensures c.loop-g-test.true) in
    let at = item_at (sizes c.args.items.now) c.loop-g.g below in
    record {
      written =
          loop_more (group_lines c.args.items.now) (flat_map (group_lines c.args.items.now) (sizes c.args.items.now)) (sizes c.args.items.now)
          c.loop-g.g at.item (g.O.Sink.written c.args.out.now) (g.O.Sink.written c.loop-g.out) (g.O.Sink.written c.write_one_group.new.out)
          below at.here c.loop-g.invariant.written (c.in_ok-write_one_group.ensures.lines at.item at.here);
      same = c.in_ok-write_one_group.ensures.cause.ok ∙ c.loop-g.invariant.same;
    }

pub loop-g-init : goal.loop-g-init
loop-g-init g c = record { written = no_line_written_yet _ _; same = refl }

pub write_one_group-requires : goal.write_one_group-requires
write_one_group-requires g c = size_within c.args.items.now c.loop-g.g (subst (λ (n : ℕ). c.loop-g.g < n) c.groups-g-end.ensures c.loop-g-test.true)

pub returns-in_err-write_one_group-clause-cause : goal.returns-in_err-write_one_group-clause-cause
returns-in_err-write_one_group-clause-cause g c =
    cause-of_error_later _ c.from_residual.result c.from_residual.ensures.1 c.loop-g.invariant.same c.in_err-write_one_group.ensures.cause

pub returns-clause-lines : goal.returns-clause-lines
returns-clause-lines g c =
    lines_written_where_none_is_left (flat_map (group_lines c.args.items.now) (sizes c.args.items.now))
    (flat_map (group_lines c.args.items.now) (drop c.loop-g.g (sizes c.args.items.now))) _ _ c.loop-g.invariant.written
    (at_drop_all (flat_map (group_lines c.args.items.now)) (sizes c.args.items.now) c.loop-g.g
    (omega (arith, c.loop-g-test.false, c.groups-g-end.ensures, length-groups c.args.items.now (sizes c.args.items.now))))

pub returns-clause-cause : goal.returns-clause-cause
returns-clause-cause g c = cause-of_same c.loop-g.invariant.same
