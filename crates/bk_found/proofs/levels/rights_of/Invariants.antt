use Rattle.bk_found.proofs.LevelSteps.{AreEdges}
use Rattle.bk_found.proofs.levels.rights_of.Given as goal

abbrev pub invariant-loop-i : goal.invariant-loop-i
invariant-loop-i l = AreEdges l.lefts l.currents l.rights.items l.total l.i
