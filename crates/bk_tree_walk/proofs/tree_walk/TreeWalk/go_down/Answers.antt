use Rattle.std.proofs.Common.{arith, subst, sym}
use Rattle.bk_word.specs.Word.{Word}
use Rattle.bk_tree_walk.specs.TreePlace.{IsReady, IsTreeWalkState}
use Rattle.bk_tree_walk.proofs.StateLaws.{stand_down}
use Rattle.bk_tree_walk.proofs.tree_walk.TreeWalk.go_down.Goals as goal

pub push-requires-clause-legal : goal.push-requires-clause-legal
push-requires-clause-legal g c = (subst IsReady (sym c.self.view_is) c.requires).legal

pub push-requires-clause-few : goal.push-requires-clause-few
push-requires-clause-few g c = let ready = subst IsReady (sym c.self.view_is) c.requires in omega (arith, ready.few, c.self.invariant.most)

pub invariant_of-self : goal.invariant_of-self
invariant_of-self g c =
    let ready = subst IsReady (sym c.self.view_is) c.requires in
    record {
      least = c.self.invariant.least;
      most = c.self.invariant.most;
      stand = subst (λ (w : Word). IsTreeWalkState c.self.inside.order w c.self.inside.next) (sym c.push.ensures.moves) (stand_down _ c.self.invariant ready);
      known = omega arith;
    }
