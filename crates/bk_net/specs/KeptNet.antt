-- Which nets a `Net` of the code can be: those of at most 201 nodes and 200 wires.
-- Example (FlowExamples): two nodes and one wire.
use Rattle.std.specs.Prelude.{length, ◌≤◌}
use Rattle.bk_net.specs.Net.{IsNet, Net}
use Rattle.bk_net.specs.declared.TheConstants.{MOST_NODES, MOST_WIRES}

-- what holds of each `Net`
pub record IsKeptNet (net : Net) : Type 0 where
  pub is : IsNet net
  pub few_nodes : net.nodes ≤ MOST_NODES
  pub few_wires : length net.wires ≤ MOST_WIRES
