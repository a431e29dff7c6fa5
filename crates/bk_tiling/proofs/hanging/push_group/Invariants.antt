use Rattle.std.proofs.Common.{length, sum, take, ◌++◌, ◌+◌, ◌≡◌}
use Rattle.bk_tiling.specs.SquareGroups.{laid_group}
use Rattle.bk_tiling.proofs.hanging.push_group.Given as goal

abbrev pub invariant-loop-side : goal.invariant-loop-side
invariant-loop-side l = record {
  at : l.x ≡ l.gap.x + sum (take l.side-index l.sides);
  count : length l.laid.items ≡ length l.fn.laid.items + l.side-index;
  items : l.laid.items ≡ l.fn.laid.items ++ laid_group l.gap.x l.gap.level (take l.side-index l.sides);
}
