use Rattle.std.proofs.Common.{take, ◌*◌, ◌≡◌, ◌≤◌}
use Rattle.bk_tiling.specs.Area.{area_of}
use Rattle.bk_tiling.proofs.checks.area_of.Given as goal

abbrev pub invariant-squares : goal.invariant-squares
invariant-squares l = record {
  area : l.area ≡ area_of (take l.q-index l.squares);
  small : l.area ≤ l.q-index * (999999999999999 * 999999999999999);
}
