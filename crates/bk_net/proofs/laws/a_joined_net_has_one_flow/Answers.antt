use Rattle.bk_net.proofs.OneFlowLaws.{one_flow, ends_from_net}
use Rattle.bk_net.proofs.laws.a_joined_net_has_one_flow.Goals as goal

pub returns : goal.returns
returns c net f is joined flow positive = one_flow net (ends_from_net net is) joined f flow positive
