use Rattle.bk_net.proofs.Hanging.{AreKnown}
use Rattle.bk_net.proofs.diagram.groups_of.Given as goal

abbrev pub invariant-loop-i : goal.invariant-loop-i
invariant-loop-i l = AreKnown l.squares l.i l.levels.items l.nodes.items l.groups
