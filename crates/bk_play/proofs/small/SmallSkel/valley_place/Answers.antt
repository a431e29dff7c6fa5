use Rattle.std.proofs.Common.{refl}
use Rattle.bk_play.proofs.ValleyKept.{kept_looked, valley_kept}
use Rattle.bk_play.proofs.small.SmallSkel.valley_place.Goals as goal

pub bounds-as_slice-place : goal.bounds-as_slice-place
bounds-as_slice-place c =
    (kept_looked c.self.invariant c.as_slice.result.now c.self.inside.open.signs.items c.from-place.result c.self.inside.open.first c.as_slice.ensures.items
    refl c.from-place.ensures refl).inside

pub returns : goal.returns
returns c = valley_kept c.self.invariant c.self.view_is c.as_slice.ensures.items c.from-place.ensures c.from-start.ensures c.from.ensures
