use Rattle.std.proofs.Common.{◌-◌}
use Rattle.bk_catalogue.proofs.TreeOfWords.Ranks.{left_after}
use Rattle.bk_tree_walk.proofs.WalkLoop.{Continues}
use Rattle.bk_tree_walk.specs.TreePlace.{IsKeptTreeWalk, StaysOf, place_of}
use Rattle.bk_walk.proofs.next_member.find_next.Given as goal

abbrev pub invariant-places : goal.invariant-places
invariant-places g l = record {
  kept : IsKeptTreeWalk l.tree;
  on : Continues l.fn.tree.order l.fn.tree.class (place_of l.fn.tree) (place_of l.tree) (l.steps - l.fn.steps);
  stays : StaysOf l.fn.tree l.tree l.fn.steps l.steps;
}

abbrev pub decreases-places : goal.decreases-places
decreases-places g l = left_after (place_of l.tree)
