use Rattle.std.proofs.Common.{◌≡◌}
use Rattle.bk_skel.proofs.PlacingLoop.{IsPlacedTo, first_width}
use Rattle.bk_skel.proofs.placing.place.Given as goal

abbrev pub invariant-loop-i : goal.invariant-loop-i
invariant-loop-i l = record {
  width : l.laying.width ≡ first_width l.skel l.sides;
  to : IsPlacedTo l.skel l.sides l.i l.laying.laid.items l.laying.numbers.items;
}
