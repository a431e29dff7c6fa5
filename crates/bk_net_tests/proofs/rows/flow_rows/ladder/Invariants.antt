use Rattle.std.specs.Prelude.{length, ◌*◌, ◌+◌, ◌≡◌}
use Rattle.bk_net_tests.proofs.rows.flow_rows.ladder.Given as goal

abbrev pub invariant-loop-node : goal.invariant-loop-node
invariant-loop-node l = record {
  nodes : l.net.nodes ≡ l.rungs + 2;
  many : length l.net.wires ≡ 2 * l.node;
}
