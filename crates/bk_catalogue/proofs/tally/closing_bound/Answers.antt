use Rattle.std.proofs.Common.{[], arith, take, ◌++◌}
use Rattle.bk_catalogue.proofs.HangingBounds.TallyLaws.{tally_all, tally_next}
use Rattle.bk_catalogue.proofs.tally.closing_bound.Goals as goal

pub signs-preserved : goal.signs-preserved
signs-preserved c = record {
  tally = tally_next [] c.args.signs.now c.signs.sign-index c.tally_with-tally.result.bound c.tally_with-tally.result.aboves c.signs-test.true
      (c.tally_with-tally.ensures.tally ([] ++ take c.signs.sign-index c.args.signs.now) c.signs.invariant.tally);
  low = c.tally_with-tally.ensures.low;
  few = omega (arith, c.tally_with-tally.ensures.one, c.signs.invariant.few);
}

pub returns : goal.returns
returns c = (tally_all [] c.args.signs.now c.signs.sign-index c.signs.tally.bound c.signs.tally.aboves
    (omega (arith, c.signs-test.false)) c.signs.invariant.tally).bound_is
