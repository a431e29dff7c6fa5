use Rattle.std.proofs.Common.{length, map, take, ◌≡◌}
use Rattle.bk_simple.proofs.have_different_sides.Given as goal

abbrev pub invariant-loop-q : goal.invariant-loop-q
invariant-loop-q l = record {
  read : l.sides.items ≡ map (λ q. q.s) (take l.q-index l.squares);
  many : length l.sides.items ≡ l.q-index;
}
