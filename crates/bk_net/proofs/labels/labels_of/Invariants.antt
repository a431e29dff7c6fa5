use Rattle.bk_net.specs.Labels.{AreLabels}
use Rattle.bk_net.proofs.labels.labels_of.Given as goal

abbrev pub invariant-loop-from : goal.invariant-loop-from
invariant-loop-from l = AreLabels l.fn.nodes l.wires l.labels.items l.from-index
