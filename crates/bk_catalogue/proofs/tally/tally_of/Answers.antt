use Rattle.std.proofs.Common.{[], arith, take, ◌++◌}
use Rattle.bk_catalogue.proofs.HangingBounds.TallyLaws.{tally_all, tally_next, tally_over}
use Rattle.bk_catalogue.proofs.tally.tally_of.Goals as goal

pub returns-then-tally-room-clause-over : goal.returns-then-tally-room-clause-over
returns-then-tally-room-clause-over c = tally_over c.args.signs.now c.signs.sign-index c.tally_with-tally.result.bound
    c.tally_with-tally.result.aboves c.args.room c.signs-test.true c.if-tally-room.true
    (c.tally_with-tally.ensures.tally (take c.signs.sign-index c.args.signs.now) c.signs.invariant.tally)

pub signs-preserved : goal.signs-preserved
signs-preserved c = record {
  tally = tally_next [] c.args.signs.now c.signs.sign-index c.tally_with-tally.result.bound c.tally_with-tally.result.aboves c.signs-test.true
      (c.tally_with-tally.ensures.tally ([] ++ take c.signs.sign-index c.args.signs.now) c.signs.invariant.tally);
  low = c.tally_with-tally.ensures.low;
  room = omega (arith, c.if-tally-room.false);
}

pub returns-clause-within : goal.returns-clause-within
returns-clause-within c = tally_all [] c.args.signs.now c.signs.sign-index c.signs.tally.bound c.signs.tally.aboves
    (omega (arith, c.signs-test.false)) c.signs.invariant.tally
