use Rattle.std.proofs.Common.{sum, take, ◌*◌, ◌<◌, ◌≡◌, ◌≤◌}
use Rattle.bk_profile.proofs.profile.next_group.Given as goal

abbrev pub invariant-loop-i : goal.invariant-loop-i
invariant-loop-i l = record {
  total : l.sum ≡ sum (take l.i l.sides);
  small : l.sum ≤ l.i * 999999999999999;
  short : l.sum < l.gap;
}
