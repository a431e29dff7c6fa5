use Rattle.std.proofs.Common.{ap, arith, length, lit<, sum}
use Rattle.bk_play.proofs.ValleyKept.{stands_read}
use Rattle.bk_play.proofs.small.find_valley.Goals as goal

pub as_slice-requires : goal.as_slice-requires
as_slice-requires c = lit< tt

pub as_slice-requires-2 : goal.as_slice-requires-2
as_slice-requires-2 c = lit< tt

pub leftmost-place-requires-clause-many : goal.leftmost-place-requires-clause-many
leftmost-place-requires-clause-many c = omega (arith, c.requires.many, ap length c.as_slice.ensures.items, ap length c.as_slice-2.ensures.items)

pub leftmost-place-requires-clause-small : goal.leftmost-place-requires-clause-small
leftmost-place-requires-clause-small c = omega (arith, c.requires.small, ap sum c.as_slice.ensures.items)

pub overflow_cast-result : goal.overflow_cast-result
overflow_cast-result c = omega (arith, c.leftmost-place.ensures.within, c.as_slice-2.ensures.few, ap length c.as_slice-2.ensures.items)

pub overflow_cast-result-2 : goal.overflow_cast-result-2
overflow_cast-result-2 c = omega (arith, c.leftmost-place.ensures.few)

pub returns : goal.returns
returns c = stands_read c.as_slice.ensures.items c.as_slice-2.ensures.items c.leftmost-place.ensures.place c.leftmost-place.ensures.first
