use Rattle.std.proofs.Common.{arith}
use Rattle.bk_word.proofs.CountPlaces.{popped_at, Popped}
use Rattle.bk_word.proofs.Word.pop.Goals as goal

without_last : (c : goal.After-truncate) → Popped c.truncate.new.self.items c.args.self.now
without_last c =
    popped_at c.as_slice.result.now c.self.inside.bytes.items c.truncate.new.self.items c.args.self.now c.moves-last.result c.count_place-place.result
    c.as_slice.ensures c.self.invariant.stored c.self.view_is
    c.moves-last.ensures.value c.requires c.count_place-place.ensures.within c.count_place-place.ensures.count c.count_place-place.ensures.behind
    c.truncate.ensures.items

pub invariant_of-self : goal.invariant_of-self
invariant_of-self c = record { stored = (without_last c).is_stored; room = omega (arith, c.self.invariant.room, c.truncate.ensures.capacity) }

pub returns : goal.returns
returns c = (without_last c).moves
