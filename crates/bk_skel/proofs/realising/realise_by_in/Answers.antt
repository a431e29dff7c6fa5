use Rattle.bk_word_net.proofs.PlacedSquares.WordTilings.{none_by, realised_by, sides_many}
use Rattle.bk_skel.proofs.RealisedWord.{small_enough}
use Rattle.bk_skel.specs.RealisedIn.{tiling_found}
use Rattle.bk_skel.proofs.realising.realise_by_in.Goals as goal

pub sides_of_few-requires-clause-small : goal.sides_of_few-requires-clause-small
sides_of_few-requires-clause-small c = small_enough c.args.flow.now c.currents.ensures.kept c.currents.result.now c.currents.ensures.value

pub place-requires-clause-count : goal.place-requires-clause-count
place-requires-clause-count c = sides_many c.args.skel.now c.requires.closed c.args.flow.now.total c.args.flow.now.currents c.requires.flow
    c.currents.result.now c.in-Some.sides.items c.deref.result.now c.currents.ensures.value c.in-Some.ensures.currents c.deref.ensures.0

pub returns-in-Some : goal.returns-in-Some
returns-in-Some c = realised_by c.args.skel.now c.requires.closed c.args.flow.now.total c.args.flow.now.currents c.requires.flow
    c.currents.result.now c.in-Some.sides.items c.deref.result.now c.currents.ensures.value c.in-Some.ensures.currents
    c.deref.ensures.0 (tiling_found c.place.result c.place.new.tiling) c.place.ensures.placed c.place.ensures.only

pub returns-in-None : goal.returns-in-None
returns-in-None c = none_by c.args.skel.now c.requires.closed c.args.flow.now.total c.args.flow.now.currents c.requires.flow
    c.currents.result.now c.currents.ensures.value c.in-None.ensures.none
