use Rattle.std.proofs.Common.{subst, sym}
use Rattle.bk_word.specs.Word.{Word}
use Rattle.bk_tree_walk.proofs.PlaceLaws.{shortened_stand}
use Rattle.bk_tree_walk.proofs.StateLaws.{stays_put}
use Rattle.bk_tree_walk.specs.TreePlace.{IsTreeWalkState}
use Rattle.bk_tree_walk.proofs.tree_walk.TreeWalk.shorten.Goals as goal

pub invariant_of-self : goal.invariant_of-self
invariant_of-self c = record {
  least = c.self.invariant.least;
  most = c.self.invariant.most;
  stand = subst (λ (w : Word). IsTreeWalkState c.self.inside.order w c.self.inside.next) (sym c.shorten.ensures)
      (shortened_stand c.self.inside.order c.self.inside.lined c.self.inside.next c.args.moves c.self.invariant.stand);
  known = c.self.invariant.known;
}

pub returns-clause-stays : goal.returns-clause-stays
returns-clause-stays c = stays_put c.self.invariant c.self.view_is _ _
