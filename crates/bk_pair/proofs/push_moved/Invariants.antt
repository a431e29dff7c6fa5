use Rattle.std.proofs.Common.{length, map, take, ◌+◌, ◌++◌, ◌≡◌}
use Rattle.bk_tiling.specs.Scale.{moved_square}
use Rattle.bk_pair.proofs.push_moved.Given as goal

abbrev pub invariant-loop-q : goal.invariant-loop-q
invariant-loop-q l = record {
  pushed : l.squares.items ≡ l.fn.squares.items ++ map (moved_square l.right l.down) (take l.q-index l.q-items);
  many : length l.squares.items ≡ length l.fn.squares.items + l.q-index;
}
