use Rattle.bk_pair.proofs.SideLoops.{NoneSoFar}
use Rattle.bk_pair.proofs.kept.stands_apart.Given as goal

abbrev pub invariant-loop-i : goal.invariant-loop-i
invariant-loop-i l = NoneSoFar l.width l.height l.squares l.i
