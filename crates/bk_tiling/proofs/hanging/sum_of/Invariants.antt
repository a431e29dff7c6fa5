use Rattle.std.proofs.Common.{sum, take, ◌*◌, ◌≡◌, ◌≤◌}
use Rattle.bk_tiling.proofs.hanging.sum_of.Given as goal

abbrev pub invariant-loop-side : goal.invariant-loop-side
invariant-loop-side l = record {
  total : l.total ≡ sum (take l.side-index l.sides);
  small : l.total ≤ l.side-index * 999999999999999;
}
