use Rattle.std.proofs.Common.{ap, arith, ◌+◌, ◌≡◌}
use Rattle.bk_net.specs.Net.{Net}
use Rattle.bk_dual.proofs.NodesCounted.{nodes_and_crossings}
use Rattle.bk_dual.specs.Dual.{crossings}
use Rattle.bk_dual.proofs.crossings.Goals as goal

sum : (c : goal.After-order) → c.from.result + c.from-2.result + crossings c.args.tiling.now ≡ c.order.result + 3
sum c = omega (
  arith,
  nodes_and_crossings c.args.tiling.now (c.order.ensures.kept).tiling,
  ap (λ (net : Net). net.nodes) c.net_of-net.ensures.diagram,
  ap (λ (net : Net). net.nodes) c.dual_of-dual.ensures.diagram,
  c.nodes.ensures.value,
  c.nodes-2.ensures.value,
  c.from.ensures,
  c.from-2.ensures,
  c.order.ensures.value,
)

pub overflow_sub-result : goal.overflow_sub-result
overflow_sub-result c = omega (arith, sum c)

pub returns : goal.returns
returns c = omega (arith, sum c)
