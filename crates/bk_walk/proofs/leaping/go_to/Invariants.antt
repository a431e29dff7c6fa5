use Rattle.std.proofs.Common.{length, ◌+◌, ◌-◌, ◌≡◌}
use Rattle.bk_word.specs.Word.{order_of}
use Rattle.bk_walk.specs.Leaping.{GoesToWord}
use Rattle.bk_tree_walk.specs.TreePlace.{StaysOf}
use Rattle.bk_walk.proofs.leaping.go_to.Given as goal

abbrev pub invariant-moves : goal.invariant-moves
invariant-moves g l = record {
  goes : GoesToWord l.fn.tree.order l.tree.front l.number;
  ordered : l.order ≡ l.fn.tree.order;
  one_each : l.steps + length l.fn.tree.front ≡ l.fn.steps + length l.tree.front;
  stays : StaysOf l.fn.tree l.tree l.fn.steps l.steps;
}

abbrev pub decreases-moves : goal.decreases-moves
decreases-moves g l = l.tree.order - order_of l.tree.front
