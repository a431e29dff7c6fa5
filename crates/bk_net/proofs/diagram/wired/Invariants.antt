use Rattle.std.proofs.Common.{length, take, ◌+◌, ◌≡◌}
use Rattle.bk_net.specs.Diagram.{smith_diagram}
use Rattle.bk_net.proofs.diagram.wired.Given as goal

abbrev pub invariant-loop-i : goal.invariant-loop-i
invariant-loop-i l = record {
  wires : l.net.wires ≡ take l.i (smith_diagram l.tiling).wires;
  nodes : l.net.nodes ≡ l.bottom + 1;
  many : length l.net.wires ≡ l.i;
}
