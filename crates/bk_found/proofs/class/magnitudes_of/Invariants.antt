use Rattle.std.specs.Prelude.{length, map, nat_abs, take, ◌≡◌}
use Rattle.bk_found.proofs.class.magnitudes_of.Given as goal

abbrev pub invariant-currents : goal.invariant-currents
invariant-currents l = record {
  read : l.magnitudes.items ≡ map nat_abs (take l.current-index l.currents);
  many : length l.magnitudes.items ≡ l.current-index;
}
