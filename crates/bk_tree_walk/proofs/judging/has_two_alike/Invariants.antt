use Rattle.bk_tree_walk.proofs.UnfitFlows.{AreIntegersApartTo}
use Rattle.bk_tree_walk.proofs.judging.has_two_alike.Given as goal

abbrev pub invariant-loop-i : goal.invariant-loop-i
invariant-loop-i l = AreIntegersApartTo l.numbers l.i
