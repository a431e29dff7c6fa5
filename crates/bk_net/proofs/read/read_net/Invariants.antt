use Rattle.std.specs.Prelude.{take}
use Rattle.bk_net.proofs.NetProgress.{Progress}
use Rattle.bk_net.proofs.read.read_net.Given as goal

abbrev pub invariant-loop-at : goal.invariant-loop-at
invariant-loop-at l = Progress (take l.at l.line) l.place l.wires.items l.many
