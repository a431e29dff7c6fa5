-- The squares from where the leftmost valley is found to begin, as many as its size says, are its squares.
use Rattle.std.proofs.Common.{ap, arith, drop, length, ◌+◌, ◌-◌, ◌∙◌}
use Rattle.std.proofs.lemmas.List.{length-drop, length-take-le}
use Rattle.bk_word.specs.Outline.{valley_of, valley_place}
use Rattle.bk_word.specs.Play.{outline_of}
use Rattle.bk_word.specs.Word.{Word}
use Rattle.bk_play.proofs.ValleyReads.{AreOfValley, valley_cut, valley_sizes, valley_within}
use Rattle.bk_play.specs.Skeleton.{moves_stored}
use Rattle.bk_play.proofs.skeleton.Skel.valley_at.Goals as goal

pub leftmost-place-requires-clause-many : goal.leftmost-place-requires-clause-many
leftmost-place-requires-clause-many c = (valley_sizes c.self.invariant c.deref.result.now c.deref-2.result.now c.deref.ensures.0 c.deref-2.ensures.0).0

pub leftmost-place-requires-clause-small : goal.leftmost-place-requires-clause-small
leftmost-place-requires-clause-small c = (valley_sizes c.self.invariant c.deref.result.now c.deref-2.result.now c.deref.ensures.0 c.deref-2.ensures.0).1

pub bounds-deref-place : goal.bounds-deref-place
bounds-deref-place c =
    valley_within c.self.invariant c.deref-4.result.now c.deref-2.result.now c.leftmost-place.result.0 c.deref-4.ensures.0 c.deref-2.ensures.0
    c.leftmost-place.ensures.within

-- the part of the open squares that is read
own : (c : goal.After-from) → AreOfValley (moves_stored c.self.inside.records.items c.self.inside.played.items) c.deref-3.result.now
    c.leftmost-place.result.1 (c.leftmost-place.result.1 + c.from.result)
own c = valley_cut c.self.invariant c.deref.result.now c.deref-4.result.now c.deref-3.result.now c.deref-2.result.now c.leftmost-place.result.0
    c.leftmost-place.result.1 c.from.result c.deref.ensures.0 c.deref-4.ensures.0 c.deref-3.ensures.0 c.deref-2.ensures.0
    c.leftmost-place.ensures.place c.leftmost-place.ensures.within c.leftmost-place.ensures.first c.from.ensures

pub slice_bounds-result-end : goal.slice_bounds-result-end
slice_bounds-result-end c = (own c).within

pub returns-clause-place : goal.returns-clause-place
returns-clause-place c = c.leftmost-place.ensures.place ∙ ap valley_place (c.deref-2.ensures.0 ∙ c.self.invariant.shows.signs_are)
    ∙ ap (λ (w : Word). valley_place (outline_of w).signs) c.self.view_is

pub returns-clause-squares : goal.returns-clause-squares
returns-clause-squares c = (own c.before).are ∙ ap (λ (w : Word). valley_of (outline_of w)) c.self.view_is

pub returns-clause-few : goal.returns-clause-few
returns-clause-few c = omega (
  arith,
  (own c.before).within,
  c.deref-3.ensures.1,
  ap length c.deref-3.ensures.0,
  length-take-le (c.leftmost-place.result.1 + c.from.result - c.leftmost-place.result.1) (drop c.leftmost-place.result.1 c.deref-3.result.now)
      (omega (arith, (own c.before).within, length-drop c.leftmost-place.result.1 c.deref-3.result.now)),
)
