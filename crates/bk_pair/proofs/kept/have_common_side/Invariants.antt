use Rattle.std.proofs.Common.{length, ◌+◌, ◌-◌, ◌≤◌}
use Rattle.bk_pair.proofs.SideLoops.{NoneCommon}
use Rattle.bk_pair.proofs.kept.have_common_side.Given as goal

abbrev pub invariant-sides : goal.invariant-sides
invariant-sides l = record {
  first_within : l.i ≤ length l.first;
  second_within : l.j ≤ length l.second;
  apart : NoneCommon l.first l.second l.i l.j;
}

abbrev pub decreases-sides : goal.decreases-sides
decreases-sides l = (length l.first + length l.second) - (l.i + l.j)
