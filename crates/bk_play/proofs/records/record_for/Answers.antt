-- The record of a move is the one at the leftmost valley, with the number of the signs that stay.
use Rattle.std.proofs.Common.{arith, refl, ◌∙◌}
use Rattle.std.proofs.lemmas.List.Sums.{count_by-le-length}
use Rattle.bk_word.specs.Play.{parts}
use Rattle.bk_play.specs.Skeleton.{with_parted}
use Rattle.bk_play.proofs.records.record_for.Goals as goal

pub leftmost-valley-requires-clause-many : goal.leftmost-valley-requires-clause-many
leftmost-valley-requires-clause-many c = c.requires.many

pub leftmost-valley-requires-clause-small : goal.leftmost-valley-requires-clause-small
leftmost-valley-requires-clause-small c = c.requires.small

pub record_at_valley-noted-requires-clause-many : goal.record_at_valley-noted-requires-clause-many
record_at_valley-noted-requires-clause-many c = c.requires.many

pub record_at_valley-noted-requires-clause-place : goal.record_at_valley-noted-requires-clause-place
record_at_valley-noted-requires-clause-place c = c.leftmost-valley.ensures.place

pub record_at_valley-noted-requires-clause-within : goal.record_at_valley-noted-requires-clause-within
record_at_valley-noted-requires-clause-within c = c.leftmost-valley.ensures.within

pub record_at_valley-noted-requires-clause-first : goal.record_at_valley-noted-requires-clause-first
record_at_valley-noted-requires-clause-first c = c.leftmost-valley.ensures.first

pub record_at_valley-noted-requires-clause-first_few : goal.record_at_valley-noted-requires-clause-first_few
record_at_valley-noted-requires-clause-first_few c = c.leftmost-valley.ensures.few

pub record_at_valley-noted-requires-clause-few : goal.record_at_valley-noted-requires-clause-few
record_at_valley-noted-requires-clause-few c = c.requires.few

pub record_at_valley-noted-requires-clause-moved : goal.record_at_valley-noted-requires-clause-moved
record_at_valley-noted-requires-clause-moved c = c.requires.moved

pub record_at_valley-noted-requires-clause-from : goal.record_at_valley-noted-requires-clause-from
record_at_valley-noted-requires-clause-from c = c.requires.from

pub overflow_cast-noted : goal.overflow_cast-noted
overflow_cast-noted c = omega (arith, c.parting.ensures, count_by-le-length parts c.args.moved.now, c.requires.moved)

pub returns : goal.returns
returns c = (λ i. with_parted c.record_at_valley-noted.result (c.parting.ensures i)) ∙ c.record_at_valley-noted.ensures c.args.moved.now refl
