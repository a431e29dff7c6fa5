use Rattle.bk_tree_walk.proofs.TakingUp.{TakesUp}
use Rattle.bk_tree_walk.specs.TreePlace.{StaysOf}
use Rattle.bk_tree_walk.proofs.tree_walk.TreeWalk.resume.Given as goal

abbrev pub invariant-moves : goal.invariant-moves
invariant-moves g l = record {
  up : TakesUp l.fn.self.order l.cursor l.fn.self.front l.self.front l.i l.fn.self.pushes l.self.pushes l.fn.steps l.steps;
  stays : StaysOf l.fn.self l.self l.fn.steps l.steps;
}
