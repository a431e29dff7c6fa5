use Rattle.std.proofs.Common.{ap, arith}
use Rattle.bk_word.specs.Word.{order_of}
use Rattle.bk_play.proofs.SkelReads.{counted_in}
use Rattle.bk_play.proofs.small.SmallSkel.order.Goals as goal

pub returns-clause-value : goal.returns-clause-value
returns-clause-value c = omega (arith, c.len.ensures.value, c.len-2.ensures.value, (counted_in c.self.invariant.stored).all, ap order_of c.self.view_is)

pub returns-clause-few : goal.returns-clause-few
returns-clause-few c = omega (arith, c.len.ensures.value, c.len-2.ensures.value, (counted_in c.self.invariant.stored).all, c.self.invariant.few)
