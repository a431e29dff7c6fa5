use Rattle.std.specs.List.{AllByRecursion}
use Rattle.std.proofs.Common.{length, map, pos, take, ◌≡◌}
use Rattle.bk_tiling.specs.KeptTiling.{IsSide}
use Rattle.bk_skel.proofs.realising.sides_of_few.Given as goal

abbrev pub invariant-loop-current : goal.invariant-loop-current
invariant-loop-current l = record {
  count : length l.sides.items ≡ l.current-index;
  sides : AllByRecursion IsSide l.sides.items;
  currents : take l.current-index l.currents ≡ map pos l.sides.items;
}
