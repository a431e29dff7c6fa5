use Rattle.std.proofs.Common.{drop, length, ◌++◌, ◌+◌, ◌≡◌, ◌≤◌}
use Rattle.bk_lay.specs.LevelRuns.{runs_under}
use Rattle.bk_lay.proofs.outline.push_runs.Given as goal

abbrev pub invariant-loop-i : goal.invariant-loop-i
invariant-loop-i l = record {
  within : l.i ≤ length l.squares;
  count : length l.right.items + l.i ≡ length l.fn.right.items + length l.squares;
  items : l.right.items ≡ l.fn.right.items ++ runs_under (drop l.i l.squares);
}
