use Rattle.std.proofs.Common.{length, take, ◌≡◌}
use Rattle.bk_net.proofs.read.net_with.Given as goal

abbrev pub invariant-loop-from : goal.invariant-loop-from
invariant-loop-from l = record {
  nodes : l.net.nodes ≡ l.fn.nodes;
  wires : l.net.wires ≡ take l.from-index l.wires;
  many : length l.net.wires ≡ l.from-index;
}
