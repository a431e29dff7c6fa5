use Rattle.std.proofs.Common.{arith, take, ◌++◌, List, append-nil, subst, sym, ◌<◌}
use Rattle.bk_catalogue.proofs.HangingBounds.TallyLaws.{tally_all, tally_next}
use Rattle.bk_word.specs.declared.Sign.{Sign}
use Rattle.bk_catalogue.specs.ClosingBound.{closing_bound}
use Rattle.bk_catalogue.specs.Tally.{IsTally}
use Rattle.bk_catalogue.proofs.tally.first_over.Goals as goal

pub returns-then-tally-room-clause-over : goal.returns-then-tally-room-clause-over
returns-then-tally-room-clause-over c =
    let tally = c.tally_with-tally in
    omega (
      arith,
      c.if-tally-room.true,
      (tally_next c.args.before.now c.args.signs.now c.signs.i tally.result.bound tally.result.aboves c.signs-test.true
          (tally.ensures.tally (c.args.before.now ++ take c.signs.i c.args.signs.now) c.signs.invariant.tally)).bound_is,
    )

pub signs-preserved : goal.signs-preserved
signs-preserved c = let tally = c.tally_with-tally in record {
  tally = tally_next c.args.before.now c.args.signs.now c.signs.i tally.result.bound tally.result.aboves c.signs-test.true
      (tally.ensures.tally (c.args.before.now ++ take c.signs.i c.args.signs.now) c.signs.invariant.tally);
  low = tally.ensures.low;
  room = omega (arith, c.if-tally-room.false);
}

pub returns-clause-none : goal.returns-clause-none
returns-clause-none c = omega (
  arith,
  c.signs.invariant.room,
  (tally_all c.args.before.now c.args.signs.now c.signs.i c.signs.tally.bound
      c.signs.tally.aboves (omega (arith, c.signs-test.false)) c.signs.invariant.tally).bound_is,
)

pub tally_of-requires : goal.tally_of-requires
tally_of-requires c = c.requires

pub returns-in-None-clause-over : goal.returns-in-None-clause-over
returns-in-None-clause-over c = subst (λ (l : List Sign). c.args.room < closing_bound l) (sym (append-nil c.args.before.now)) c.in-None.ensures.over

pub signs-init : goal.signs-init
signs-init c = record {
  tally = subst (λ (l : List Sign). IsTally l c.in-Some.tally.bound c.in-Some.tally.aboves) (sym (append-nil c.args.before.now)) c.in-Some.ensures.within;
  low = c.in-Some.ensures.low;
  room = c.in-Some.ensures.room;
}

pub bounds-signs-i : goal.bounds-signs-i
bounds-signs-i c = c.signs-test.true

pub tally_with-tally-requires-clause-few : goal.tally_with-tally-requires-clause-few
tally_with-tally-requires-clause-few c = omega (arith, c.signs.invariant.room, c.requires)

pub tally_with-tally-requires-clause-low : goal.tally_with-tally-requires-clause-low
tally_with-tally-requires-clause-low c = c.signs.invariant.low

pub overflow_add-result : goal.overflow_add-result
overflow_add-result c = omega arith
