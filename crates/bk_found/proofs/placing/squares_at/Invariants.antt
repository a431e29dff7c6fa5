use Rattle.bk_found.proofs.LevelSteps.{ArePlaced}
use Rattle.bk_found.proofs.placing.squares_at.Given as goal

abbrev pub invariant-loop-k : goal.invariant-loop-k
invariant-loop-k l = ArePlaced l.lefts l.wires l.currents l.levels l.rights l.total l.squares.items l.k
