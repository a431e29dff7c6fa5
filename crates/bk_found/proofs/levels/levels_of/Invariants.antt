use Rattle.bk_found.proofs.LevelSteps.{AreLevelled}
use Rattle.bk_found.proofs.levels.levels_of.Given as goal

abbrev pub invariant-loop-i : goal.invariant-loop-i
invariant-loop-i l = AreLevelled l.wires l.currents l.levels l.i
