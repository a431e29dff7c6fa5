use Rattle.bk_net.proofs.NetStopping.{net_line_stands_for_one_thing}
use Rattle.bk_net.proofs.laws.a_net_line_has_one_meaning.Goals as goal

pub returns : goal.returns
returns c = net_line_stands_for_one_thing
