use Rattle.std.specs.List.{flat_map}
use Rattle.std.proofs.Common.{ap, length, refl, ◌<◌, ◌∙◌}
use Rattle.std.proofs.lemmas.List.{at_drop_all}
use Rattle.std.specs.Prelude.{drop}
use Rattle.std.proofs.lemmas.List.Elements.{All-from_recursion}
use Rattle.bk_report.specs.ListLines.{member_line}
use Rattle.bk_alike.specs.GroupsEnd.{member_at}
use Rattle.bk_alike.proofs.ListLoops.{lines_broken_by_a_failed_call, members_broken, members_more}
use Rattle.bk_alike.proofs.WrittenLines.{lines_written_where_none_is_left, no_line_written_yet}
use Rattle.bk_answer.proofs.Failing.{cause-of_error_later, cause-of_same}
use Rattle.bk_alike.proofs.closing.write_members.Goals as goal

pub returns-in_err-write_all-clause-lines : goal.returns-in_err-write_all-clause-lines
returns-in_err-write_all-clause-lines g c =
    lines_broken_by_a_failed_call _ (flat_map (member_at c.args.items.now) c.args.places.now) (g.O.Sink.written c.args.out.now)
    (g.O.Sink.written c.write_all.new.self)
    c.from_residual.result c.from_residual.ensures.1
    (members_broken c.args.items.now c.args.places.now c.loop-place.place-index 0 c.item-line.result.0 c.item-line.result.1.now c.as_slice.result.now
    c.loop-place-test.true c.item-line.ensures
    (c.as_slice.ensures.value ∙ c.write_member.ensures ∙ ap (member_line c.item-line.result.0) c.tiling.ensures)
    (flat_map (member_at c.args.items.now) c.args.places.now) (g.O.Sink.written c.args.out.now)
    (g.O.Sink.written c.loop-place.out) (g.O.Sink.written c.write_all.new.self)
    c.loop-place.invariant.written c.in_err-write_all.ensures.err)

pub loop-place-preserved : goal.loop-place-preserved
loop-place-preserved g c = record {
  written =
      members_more c.args.items.now c.args.places.now c.loop-place.place-index 0 c.item-line.result.0 c.item-line.result.1.now c.as_slice.result.now
      c.loop-place-test.true c.item-line.ensures
      (c.as_slice.ensures.value ∙ c.write_member.ensures ∙ ap (member_line c.item-line.result.0) c.tiling.ensures)
      (flat_map (member_at c.args.items.now) c.args.places.now) (g.O.Sink.written c.args.out.now)
      (g.O.Sink.written c.loop-place.out) (g.O.Sink.written c.write_all.new.self)
      c.loop-place.invariant.written c.in_ok-write_all.ensures.ok;
  same = c.in_ok-write_all.ensures.cause.ok ∙ c.loop-place.invariant.same;
}

pub loop-place-init : goal.loop-place-init
loop-place-init g c = record { written = no_line_written_yet _ _; same = refl }

pub item-line-requires : goal.item-line-requires
item-line-requires g c =
    All-from_recursion (λ place. place < length c.args.items.now) c.args.places.now c.requires c.loop-place.place-index 0 c.loop-place-test.true

pub returns-in_err-write_all-clause-cause : goal.returns-in_err-write_all-clause-cause
returns-in_err-write_all-clause-cause g c =
    cause-of_error_later _ c.from_residual.result c.from_residual.ensures.1 c.loop-place.invariant.same c.in_err-write_all.ensures.cause

pub returns-clause-lines : goal.returns-clause-lines
returns-clause-lines g c =
    lines_written_where_none_is_left (flat_map (member_at c.args.items.now) c.args.places.now)
    (flat_map (member_at c.args.items.now) (drop c.loop-place.place-index c.args.places.now)) _ _ c.loop-place.invariant.written
    (at_drop_all (flat_map (member_at c.args.items.now)) c.args.places.now c.loop-place.place-index c.loop-place-test.false)

pub returns-clause-cause : goal.returns-clause-cause
returns-clause-cause g c = cause-of_same c.loop-place.invariant.same
