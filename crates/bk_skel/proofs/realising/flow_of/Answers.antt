use Rattle.std.proofs.Common.{subst}
use Rattle.bk_net.specs.Flow.{IsPrimitiveFlow}
use Rattle.bk_net.specs.Net.{Net}
use Rattle.bk_skel.proofs.RealisedWord.{complete_net_has_no_loose_node, net_of_few_squares_has_few_wires}
use Rattle.bk_skel.proofs.realising.flow_of.Goals as goal

pub narrow_flow-requires-clause-few : goal.narrow_flow-requires-clause-few
narrow_flow-requires-clause-few c = net_of_few_squares_has_few_wires c.args.skel.now c.net.result c.net.ensures c.requires.few

pub narrow_flow-requires-clause-joined : goal.narrow_flow-requires-clause-joined
narrow_flow-requires-clause-joined c = complete_net_has_no_loose_node c.args.skel.now c.net.result c.net.ensures c.requires.closed

pub returns : goal.returns
returns c = subst (λ (n : Net). IsPrimitiveFlow n c.narrow_flow.result.total c.narrow_flow.result.currents) c.net.ensures c.narrow_flow.ensures.flow
