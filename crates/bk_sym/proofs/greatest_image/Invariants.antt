use Rattle.bk_sym.proofs.Greatest.{IsGreatestSoFar}
use Rattle.bk_sym.proofs.greatest_image.Given as goal

abbrev pub invariant-loop-turn : goal.invariant-loop-turn
invariant-loop-turn l = IsGreatestSoFar l.tiling l.first l.turn-items l.turn-index l.greatest
