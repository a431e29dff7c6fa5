use Rattle.std.proofs.Common.{ap, arith, subst, sym, ◌+◌, ◌-◌}
use Rattle.bk_free_search.proofs.Asks.AskedNext.{asked_none, few_up, left_apart}
use Rattle.bk_free_search.proofs.Asks.CountedSigns.{counted_none}
use Rattle.bk_free_search.specs.Apart.{IsCountedTo}
use Rattle.bk_free_search.specs.declared.counts.TheConstants.{FEW}
use Rattle.bk_free_search.proofs.asking.before_valley.Goals as goal

pub returns-then-place-eq0-clause-asked : goal.returns-then-place-eq0-clause-asked
returns-then-place-eq0-clause-asked c = record {
  none = asked_none c.args.board.now c.none_passed.result 0 (omega (arith, c.if-place-eq0.true, c.requires.valley.stands.place_is)) (omega arith)
      (λ m legal. subst (IsCountedTo c.args.board.now m 0) (sym c.none_passed.ensures.passed) (counted_none c.args.board.now m legal))
      c.none_passed.ensures.few;
  even = λ e. absurd (left_apart c.args.board.now e (omega (arith, c.if-place-eq0.true, c.requires.valley.stands.place_is)));
  under = λ e. absurd (left_apart c.args.board.now e (omega (arith, c.if-place-eq0.true, c.requires.valley.stands.place_is)));
}

pub left_even-requires-clause-few : goal.left_even-requires-clause-few
left_even-requires-clause-few c = let f = c.pass_before-passed.ensures.few in let small = c.pass_before-passed.ensures.small in
    record { most = omega (arith, f.most, small); aboves = omega (arith, f.aboves, small); more = omega (arith, f.more, small) }

pub left_under-requires-clause-few : goal.left_under-requires-clause-few
left_under-requires-clause-few c = let f = c.pass_before-passed.ensures.few in let small = c.pass_before-passed.ensures.small in
    record { most = omega (arith, f.most, small); aboves = omega (arith, f.aboves, small); more = omega (arith, f.more, small) }

pub returns-clause-asked : goal.returns-clause-asked
returns-clause-asked c = record {
  none = asked_none c.args.board.now c.pass_before-passed.result (c.args.valley.now.place - 1) (ap (λ k. k - 1) c.requires.valley.stands.place_is)
      (omega (arith, c.pass_before-passed.ensures.small)) c.pass_before-passed.ensures.counted c.pass_before-passed.ensures.few;
  even = λ e. c.left_even.ensures;
  under = λ e. c.left_under.ensures;
}

pub returns-then-place-eq0-clause-few : goal.returns-then-place-eq0-clause-few
returns-then-place-eq0-clause-few c =
    let few = few_up c.none_passed.result 0 (FEW + 1) (omega arith) c.none_passed.ensures.few in record { none = few; even = few; under = few }

pub returns-clause-few : goal.returns-clause-few
returns-clause-few c = record {
  none = few_up c.pass_before-passed.result (c.args.valley.now.place - 1) (FEW + 1) (omega (arith, c.pass_before-passed.ensures.small))
      c.pass_before-passed.ensures.few;
  even = few_up c.left_even.result.passed (FEW + 1) (FEW + 1) (omega arith) c.left_even.ensures.few;
  under = few_up c.left_under.result.passed (FEW + 1) (FEW + 1) (omega arith) c.left_under.ensures.few;
}

pub overflow_sub-place : goal.overflow_sub-place
overflow_sub-place c = omega (arith, c.if-place-eq0.false)

pub overflow_sub-place-2 : goal.overflow_sub-place-2
overflow_sub-place-2 c = omega (arith, c.if-place-eq0.false)

pub pass_before-passed-requires-clause-few : goal.pass_before-passed-requires-clause-few
pass_before-passed-requires-clause-few c = c.requires.few

pub pass_before-passed-requires-clause-marks : goal.pass_before-passed-requires-clause-marks
pass_before-passed-requires-clause-marks c = c.requires.marks

pub pass_before-passed-requires-clause-many : goal.pass_before-passed-requires-clause-many
pass_before-passed-requires-clause-many c = omega (arith, c.if-place-eq0.false, c.requires.valley.stands.place_is)

pub left_even-requires-clause-marks : goal.left_even-requires-clause-marks
left_even-requires-clause-marks c = c.requires.marks

pub left_even-requires-clause-place : goal.left_even-requires-clause-place
left_even-requires-clause-place c = omega (arith, c.if-place-eq0.false, c.requires.valley.stands.place_is)

pub left_even-requires-clause-counted : goal.left_even-requires-clause-counted
left_even-requires-clause-counted c = c.pass_before-passed.ensures.counted

pub left_under-requires-clause-marks : goal.left_under-requires-clause-marks
left_under-requires-clause-marks c = c.requires.marks

pub left_under-requires-clause-valley : goal.left_under-requires-clause-valley
left_under-requires-clause-valley c = c.requires.valley

pub left_under-requires-clause-some : goal.left_under-requires-clause-some
left_under-requires-clause-some c = omega (arith, c.if-place-eq0.false)

pub left_under-requires-clause-counted : goal.left_under-requires-clause-counted
left_under-requires-clause-counted c = c.pass_before-passed.ensures.counted
