use Rattle.std.proofs.Common.{length, map, take, ◌++◌, ◌+◌, ◌≡◌}
use Rattle.bk_play.proofs.netting.add_wires.Given as goal

abbrev pub invariant-loop-end : goal.invariant-loop-end
invariant-loop-end l = record {
  nodes : l.net.nodes ≡ l.fn.net.nodes;
  long : length l.net.wires ≡ length l.fn.net.wires + l.end-index;
  wires : l.net.wires ≡ l.fn.net.wires ++ map (λ e. (l.node, e)) (take l.end-index l.ends);
}
