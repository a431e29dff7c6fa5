use Rattle.std.proofs.Common.{arith, length-set, ◌∙◌}
use Rattle.bk_play.proofs.Rooms.{numbers_in_order_with_one_more_written}
use Rattle.bk_play.proofs.splicing.put_numbers.Goals as goal

pub loop-place-preserved : goal.loop-place-preserved
loop-place-preserved c =
    let i = c.loop-place.invariant in
    record {
      long = length-set c.loop-place.room c.loop-place.place-index c.loop-place.next ∙ i.long;
      next = omega (arith, i.next);
      put = numbers_in_order_with_one_more_written c.loop-place.room c.args.first c.loop-place.next c.loop-place.place-index (omega arith) i.next i.put;
    }
