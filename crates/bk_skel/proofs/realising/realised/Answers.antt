use Rattle.std.proofs.Common.{refl}
use Rattle.std.proofs.lemmas.Bool.{both_ways}
use Rattle.bk_word_net.proofs.PlacedSquares.WordTilings.{none_by, realised_by, sides_many}
use Rattle.bk_skel.proofs.WideWords.{large_by, not_large}
use Rattle.bk_skel.specs.RealisedIn.{tiling_found}
use Rattle.bk_skel.proofs.realising.realised.Goals as goal

pub returns-then-has_large-clause-wide : goal.returns-then-has_large-clause-wide
returns-then-has_large-clause-wide c = (
  λ e. large_by c.args.skel.now c.args.flow.now.total c.args.flow.now.currents c.requires.flow
      c.currents-currents.result.now c.currents-currents.ensures.value (c.has_large.ensures.0 c.if-has_large.true),
  λ h. refl,
)

pub place-requires-clause-count : goal.place-requires-clause-count
place-requires-clause-count c = sides_many c.args.skel.now c.requires.closed c.args.flow.now.total c.args.flow.now.currents c.requires.flow
    c.currents-currents.result.now c.in-Some.sides.items c.deref.result.now c.currents-currents.ensures.value c.in-Some.ensures.currents c.deref.ensures.0

pub returns-in-Some-clause-realised : goal.returns-in-Some-clause-realised
returns-in-Some-clause-realised c = realised_by c.args.skel.now c.requires.closed c.args.flow.now.total c.args.flow.now.currents c.requires.flow
    c.currents-currents.result.now c.in-Some.sides.items c.deref.result.now c.currents-currents.ensures.value c.in-Some.ensures.currents
    c.deref.ensures.0 (tiling_found c.place.result c.place.new.tiling) c.place.ensures.placed c.place.ensures.only

pub returns-in-Some-clause-wide : goal.returns-in-Some-clause-wide
returns-in-Some-clause-wide c = (
  λ e. absurd (both_ways _ refl e),
  λ h. absurd (not_large c.args.skel.now c.requires.flow c.currents-currents.ensures.value c.if-has_large.false c.has_large.ensures.1 h),
)

pub returns-in-None-clause-realised : goal.returns-in-None-clause-realised
returns-in-None-clause-realised c = none_by c.args.skel.now c.requires.closed c.args.flow.now.total c.args.flow.now.currents c.requires.flow
    c.currents-currents.result.now c.currents-currents.ensures.value c.in-None.ensures.none

pub returns-in-None-clause-wide : goal.returns-in-None-clause-wide
returns-in-None-clause-wide c = (
  λ e. absurd (both_ways _ refl e),
  λ h. absurd (not_large c.args.skel.now c.requires.flow c.currents-currents.ensures.value c.if-has_large.false c.has_large.ensures.1 h),
)
