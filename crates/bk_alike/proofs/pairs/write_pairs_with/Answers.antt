use Rattle.std.specs.Prelude.{drop}
use Rattle.std.proofs.Common.{List, ap, arith, get_or, length, refl, ℕ, ◌+◌, ◌∙◌}
use Rattle.std.proofs.lemmas.Option.{slice_get-get_or}
use Rattle.std.proofs.lemmas.List.{at_drop_all}
use Rattle.std.specs.List.{flat_map}
use Rattle.bk_alike.specs.LaterLines.{later_lines}
use Rattle.bk_alike.specs.Pairs.{pair_lines}
use Rattle.bk_alike.proofs.GroupMembers.{place_below}
use Rattle.bk_alike.proofs.LaterPairs.{pairs_looked_up}
use Rattle.bk_alike.proofs.ListLoops.{count_next, lines_broken_by_a_failed_call, loop_broken, loop_more}
use Rattle.bk_alike.proofs.WrittenLines.{lines_written_where_none_is_left, written_from}
use Rattle.bk_laws.proofs.Outcomes.{if_ok-of_error}
use Rattle.bk_answer.proofs.Failing.{cause-of_error_later, cause-of_same}
use Rattle.bk_alike.proofs.pairs.write_pairs_with.Goals as goal

pub loop-place-init : goal.loop-place-init
loop-place-init g c =
    let same = pairs_looked_up c.args.kind c.args.items.now c.args.i c.item-line.result.0 c.width.result c.height.result c.item-line.result.1.now
    c.of_size-places.result.now c.item-line.ensures c.width.ensures c.height.ensures c.of_size-places.ensures.value in
    record {
      written = λ a e. written_from _ _ (g.O.Sink.written c.args.out.now) (same a e);
      count = λ a e. let h = ap (λ (l : List (List ℕ)). length l) (same a e) in omega (arith, h);
      few = omega arith;
      same = refl;
    }

pub write_if_pair-requires-clause-second : goal.write_if_pair-requires-clause-second
write_if_pair-requires-clause-second g c =
    place_below c.args.items.now (c.width.result, c.height.result) c.of_size-places.result.now c.loop-place.place-index c.of_size-places.ensures.value
    c.loop-place-test.true

pub returns-in_err-more-clause-lines : goal.returns-in_err-more-clause-lines
returns-in_err-more-clause-lines g c a e =
    let lines : ℕ → List (List ℕ) = later_lines c.args.kind c.args.items.now c.args.i a in
    let all : List (List ℕ) = flat_map (pair_lines c.args.kind a) (drop (c.args.i + 1) c.args.items.now) in
    let places = c.of_size-places.result.now in
    let k = c.loop-place.place-index in
    lines_broken_by_a_failed_call _ all (g.O.Sink.written c.args.out.now)
    (g.O.Sink.written c.write_if_pair.new.out) c.from_residual.result c.from_residual.ensures.1
    (loop_broken lines all places k (get_or places k 0) (g.O.Sink.written c.args.out.now) (g.O.Sink.written c.loop-place.out)
    (g.O.Sink.written c.write_if_pair.new.out)
    c.loop-place-test.true (slice_get-get_or places k 0 c.loop-place-test.true) (c.loop-place.invariant.written a e) (c.in_err-more.ensures.lines a e))

pub loop-place-preserved : goal.loop-place-preserved
loop-place-preserved g c =
    let places = c.of_size-places.result.now in
    let k = c.loop-place.place-index in
    let here = slice_get-get_or places k 0 c.loop-place-test.true in
    record {
      written = λ a e.
          loop_more (later_lines c.args.kind c.args.items.now c.args.i a) (flat_map (pair_lines c.args.kind a) (drop (c.args.i + 1) c.args.items.now))
          places k (get_or places k 0)
          (g.O.Sink.written c.args.out.now) (g.O.Sink.written c.loop-place.out) (g.O.Sink.written c.write_if_pair.new.out)
          c.loop-place-test.true here (c.loop-place.invariant.written a e) (c.in_ok-more.ensures.lines a e);
      count = λ a e.
          count_next (later_lines c.args.kind c.args.items.now c.args.i a) places
          (length (flat_map (pair_lines c.args.kind a) (drop (c.args.i + 1) c.args.items.now))) k c.loop-place.pairs c.in_ok-more.more
          (get_or places k 0) c.loop-place-test.true here (c.loop-place.invariant.count a e) (c.in_ok-more.ensures.count a e);
      few = omega (arith, c.loop-place.invariant.few, c.in_ok-more.ensures.few);
      same = c.in_ok-more.ensures.cause.ok ∙ c.loop-place.invariant.same;
    }

pub item-line-requires : goal.item-line-requires
item-line-requires g c = c.requires

pub write_if_pair-requires-clause-first : goal.write_if_pair-requires-clause-first
write_if_pair-requires-clause-first g c = c.requires

pub returns-in_err-more-clause-count : goal.returns-in_err-more-clause-count
returns-in_err-more-clause-count g c =
    if_ok-of_error _ c.from_residual.result _ c.from_residual.ensures.1

pub returns-in_err-more-clause-cause : goal.returns-in_err-more-clause-cause
returns-in_err-more-clause-cause g c =
    cause-of_error_later _ c.from_residual.result c.from_residual.ensures.1 c.loop-place.invariant.same c.in_err-more.ensures.cause

pub returns-clause-lines : goal.returns-clause-lines
returns-clause-lines g c a e =
    let lines : ℕ → List (List ℕ) = later_lines c.args.kind c.args.items.now c.args.i a in
    lines_written_where_none_is_left (flat_map (pair_lines c.args.kind a) (drop (c.args.i + 1) c.args.items.now))
    (flat_map lines (drop c.loop-place.place-index c.of_size-places.result.now)) _ _ (c.loop-place.invariant.written a e)
    (at_drop_all (flat_map lines) c.of_size-places.result.now c.loop-place.place-index c.loop-place-test.false)

pub returns-clause-count : goal.returns-clause-count
returns-clause-count g c a e =
    let lines : ℕ → List (List ℕ) = later_lines c.args.kind c.args.items.now c.args.i a in
    let none = at_drop_all (λ l. length (flat_map lines l)) c.of_size-places.result.now c.loop-place.place-index c.loop-place-test.false in
    omega (arith, c.loop-place.invariant.count a e, none)

pub returns-clause-cause : goal.returns-clause-cause
returns-clause-cause g c = cause-of_same c.loop-place.invariant.same
