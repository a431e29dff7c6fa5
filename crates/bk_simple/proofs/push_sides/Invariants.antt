use Rattle.std.proofs.Common.{length, map, take, ◌+◌, ◌++◌, ◌≡◌}
use Rattle.bk_simple.proofs.push_sides.Given as goal

abbrev pub invariant-loop-q : goal.invariant-loop-q
invariant-loop-q l = record {
  pushed : l.sides.items ≡ l.fn.sides.items ++ map (λ q. q.s) (take l.q-index l.q-items);
  many : length l.sides.items ≡ length l.fn.sides.items + l.q-index;
}
