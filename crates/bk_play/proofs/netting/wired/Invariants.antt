use Rattle.std.proofs.Common.{drop, length, sum, ◌++◌, ◌+◌, ◌≡◌}
use Rattle.bk_play.specs.Wiring.{hung_and_closed, move_wires_from}
use Rattle.bk_play.proofs.netting.wired.Given as goal

abbrev pub invariant-loop-node : goal.invariant-loop-node
invariant-loop-node l = record {
  nodes : l.net.nodes ≡ length l.records + 1;
  many : length l.net.wires + length l.rest ≡ length l.ends;
  left : length l.rest ≡ sum (hung_and_closed (drop l.node l.records));
  wires : move_wires_from 0 (hung_and_closed l.records) l.ends ≡ l.net.wires ++ move_wires_from l.node (hung_and_closed (drop l.node l.records)) l.rest;
}
