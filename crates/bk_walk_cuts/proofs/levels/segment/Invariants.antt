use Rattle.std.proofs.Common.{sum, take, ◌≡◌, ◌≤◌}
use Rattle.bk_walk_cuts.proofs.levels.segment.Given as goal

abbrev pub invariant-loop-i : goal.invariant-loop-i
invariant-loop-i l = record {
  start : l.start ≡ sum (take l.i l.sizes);
  before : l.i ≤ l.place;
}
