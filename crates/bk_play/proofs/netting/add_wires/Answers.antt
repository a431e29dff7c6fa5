use Rattle.std.proofs.lemmas.Grind.{common_steps}
use Rattle.std.proofs.Common.{arith, ◌∙◌}
use Rattle.bk_play.proofs.Wirings.{wires_from_a_node_lead_to_other_nodes}
use Rattle.bk_play.proofs.netting.add_wires.Goals as goal

pub add-requires-clause-to_node : goal.add-requires-clause-to_node
add-requires-clause-to_node c = omega (
  arith,
  c.from.ensures,
  (c.loop-end.invariant).nodes,
  (wires_from_a_node_lead_to_other_nodes (c.args.net.now).nodes c.args.node c.args.ends.now c.loop-end.end-index (omega arith) c.requires.wires).0,
)

pub add-requires-clause-differ : goal.add-requires-clause-differ
add-requires-clause-differ c = λ e. (wires_from_a_node_lead_to_other_nodes (c.args.net.now).nodes c.args.node c.args.ends.now c.loop-end.end-index (omega arith)
    c.requires.wires).1 (e ∙ c.from.ensures)

pub add-requires-clause-from_node : goal.add-requires-clause-from_node
add-requires-clause-from_node c = grind (arith, common_steps)

pub loop-end-preserved : goal.loop-end-preserved
loop-end-preserved c = grind (arith, common_steps)

pub returns-clause-wires : goal.returns-clause-wires
returns-clause-wires c = grind (arith, common_steps)
