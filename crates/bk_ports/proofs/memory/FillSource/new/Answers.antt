use Rattle.std.proofs.Common.{rules}
use Rattle.bk_ports.proofs.memory.FillSource.new.Goals as goal

pub returns : goal.returns
returns c = search rules
