use Rattle.std.proofs.Common.{Bool, ap, arith, cond, drop, false, length, slice_index_or, subst, ◌+◌, ◌-◌, ◌≡◌}
use Rattle.bk_word.specs.Signs.{is_under}
use Rattle.bk_word.specs.declared.Sign.TheVariants.{Above}
use Rattle.bk_free_search.proofs.Asks.BehindLists.{last_asks, next_asks}
use Rattle.bk_free_search.specs.Apart.{AreAsks}
use Rattle.bk_free_search.proofs.behind.asks_from.Goals as goal

pub loop-i-init : goal.loop-i-init
loop-i-init c = record {
  asks = λ all many each. last_asks (is_under (slice_index_or c.args.signs.now (length c.args.signs.now - 1) Above)) c.args.signs.now c.args.sizes.now all
      c.requires.long many c.at_end-asks.result
      (c.at_end-asks.ensures.asks (is_under (slice_index_or c.args.signs.now (length c.args.signs.now - 1) Above))
      (slice_index_or c.args.sizes.now (length c.args.signs.now) 0) (slice_index_or all (length c.args.signs.now) false)
      (ap (λ (b : Bool). cond b 1 0) c.is_single.ensures) (λ e. each (length c.args.signs.now) (c.has_mark.ensures e)));
  low = c.requires.within;
  few = record {
    add = omega (arith, c.at_end-asks.ensures.few.add);
    most = omega (arith, c.at_end-asks.ensures.few.most);
    more = omega (arith, c.at_end-asks.ensures.few.more);
  };
}

pub loop-i-preserved : goal.loop-i-preserved
loop-i-preserved c = record {
  asks = λ all many each. next_asks (is_under (slice_index_or c.args.signs.now (c.loop-i.i - 1 - 1) Above)) c.args.signs.now c.args.sizes.now all
      c.requires.long many c.in_front-asks.result (c.loop-i.i - 1)
      (omega (arith, c.loop-i-test.true, c.loop-i.auto.i))
      (c.in_front-asks.ensures.asks (is_under (slice_index_or c.args.signs.now (c.loop-i.i - 1 - 1) Above)) (drop (c.loop-i.i - 1 + 1) c.args.signs.now)
      (slice_index_or c.args.sizes.now (c.loop-i.i - 1) 0) (drop (c.loop-i.i - 1 + 1) c.args.sizes.now) (slice_index_or all (c.loop-i.i - 1) false)
      (drop (c.loop-i.i - 1 + 1) all)
      (let back : c.loop-i.i ≡ c.loop-i.i - 1 + 1 = omega (arith, c.loop-i-test.true, c.loop-i.auto.i) in
      subst (λ k. AreAsks (is_under (slice_index_or c.args.signs.now (c.loop-i.i - 1) Above)) (drop k c.args.signs.now) (drop k c.args.sizes.now) (drop k all)
      c.loop-i.asks) back (c.loop-i.invariant.asks all many each))
      (ap (λ (b : Bool). cond b 1 0) c.is_single-in-loop-i.ensures) (λ e. each (c.loop-i.i - 1) (c.has_mark-in-loop-i.ensures e)));
  low = omega (arith, c.loop-i-test.true);
  few = let f = c.in_front-asks.ensures.few (length c.args.signs.now + 1 - c.loop-i.i) c.loop-i.invariant.few in record {
    add = omega (arith, f.add, c.loop-i-test.true, c.loop-i.auto.i);
    most = omega (arith, f.most, c.loop-i-test.true, c.loop-i.auto.i);
    more = omega (arith, f.more, c.loop-i-test.true, c.loop-i.auto.i);
  };
}

pub returns-clause-asks : goal.returns-clause-asks
returns-clause-asks c all many each = let at : c.loop-i.i ≡ c.args.from = omega (arith, c.loop-i-test.false, c.loop-i.invariant.low) in
    subst (λ k. AreAsks (is_under (slice_index_or c.args.signs.now (k - 1) Above)) (drop k c.args.signs.now) (drop k c.args.sizes.now) (drop k all)
    c.loop-i.asks) at (c.loop-i.invariant.asks all many each)

pub is_single-requires-clause-some : goal.is_single-requires-clause-some
is_single-requires-clause-some c = omega (arith, c.requires.some, c.requires.within)

pub is_single-requires-clause-within : goal.is_single-requires-clause-within
is_single-requires-clause-within c = omega arith

pub is_single-requires-clause-long : goal.is_single-requires-clause-long
is_single-requires-clause-long c = c.requires.long

pub overflow_step-i : goal.overflow_step-i
overflow_step-i c = omega (arith, c.loop-i-test.true)

pub bounds-signs-i : goal.bounds-signs-i
bounds-signs-i c = omega (arith, c.loop-i-test.true, c.loop-i.auto.i)

pub is_single-requires-in-loop-i-clause-some : goal.is_single-requires-in-loop-i-clause-some
is_single-requires-in-loop-i-clause-some c = omega (arith, c.loop-i-test.true, c.requires.some)

pub is_single-requires-in-loop-i-clause-within : goal.is_single-requires-in-loop-i-clause-within
is_single-requires-in-loop-i-clause-within c = omega (arith, c.loop-i.auto.i)

pub is_single-requires-in-loop-i-clause-long : goal.is_single-requires-in-loop-i-clause-long
is_single-requires-in-loop-i-clause-long c = c.requires.long

pub in_front-asks-requires : goal.in_front-asks-requires
in_front-asks-requires c =
    let f = c.loop-i.invariant.few in record {
      add = omega (arith, f.add, c.requires.few);
      most = omega (arith, f.most, c.requires.few);
      more = omega (arith, f.more, c.requires.few);
    }

pub loop-i-smaller : goal.loop-i-smaller
loop-i-smaller c = omega (arith, c.loop-i-test.true)

pub returns-clause-few : goal.returns-clause-few
returns-clause-few c =
    let f = c.loop-i.invariant.few in record {
      add = omega (arith, f.add, c.requires.few, c.requires.some, c.loop-i.invariant.low);
      most = omega (arith, f.most, c.requires.few, c.requires.some, c.loop-i.invariant.low);
      more = omega (arith, f.more, c.requires.few, c.requires.some, c.loop-i.invariant.low);
    }
