use Rattle.std.proofs.Common.{List, length, ℕ, ◌+◌, ◌<◌}
use Rattle.bk_tiling.specs.declared.Square.{Square}
use Rattle.bk_lay.specs.LevelRuns.{AreBeside, Meet}
use Rattle.bk_lay.proofs.outline.take_valley.Given as goal

abbrev pub invariant-falling : goal.invariant-falling
invariant-falling l = record {
  beside : (width : ℕ) (laid : List Square) → Meet width laid l.fn.left.items l.fn.right.items → AreBeside width laid l.left.items l.valley l.right.items;
  fewer : length l.left.items + length l.right.items < length l.fn.left.items + length l.fn.right.items;
}

abbrev pub decreases-falling : goal.decreases-falling
decreases-falling l = length l.right.items
