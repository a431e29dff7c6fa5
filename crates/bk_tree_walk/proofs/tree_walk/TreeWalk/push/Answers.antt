use Rattle.std.proofs.Common.{ap, arith, subst, sym, ◌+◌, ◌≤◌}
use Rattle.bk_word.specs.Outline.{IsLegalMove}
use Rattle.bk_word.specs.Play.{outline_of}
use Rattle.bk_word.specs.Word.{Word, order_of}
use Rattle.bk_tree_walk.specs.TreePlace.{IsTreeWalkState, TreeWalkState}
use Rattle.bk_tree_walk.proofs.StateLaws.{played_stand}
use Rattle.bk_tree_walk.proofs.tree_walk.TreeWalk.push.Goals as goal

pub push-requires-clause-legal : goal.push-requires-clause-legal
push-requires-clause-legal g c = subst (λ (s : TreeWalkState). IsLegalMove (outline_of s.front) c.args.m.now) (sym c.self.view_is) c.requires.legal

pub push-requires-clause-few : goal.push-requires-clause-few
push-requires-clause-few g c = omega (
  arith,
  c.requires.few,
  ap (λ (s : TreeWalkState). order_of s.front) c.self.view_is,
  ap (λ (s : TreeWalkState). s.order) c.self.view_is,
  c.self.invariant.most,
)

pub invariant_of-self : goal.invariant_of-self
invariant_of-self g c = record {
  least = c.self.invariant.least;
  most = c.self.invariant.most;
  stand = subst (λ (w : Word). IsTreeWalkState c.self.inside.order w c.self.inside.next) (sym c.push.ensures.moves)
      (played_stand c.self.inside.order c.self.inside.lined c.self.inside.next c.args.m.now c.self.invariant.stand
      (subst (λ (s : TreeWalkState). IsLegalMove (outline_of s.front) c.args.m.now) (sym c.self.view_is) c.requires.legal)
      (subst (λ (s : TreeWalkState). order_of s.front + c.args.m.now.count ≤ s.order) (sym c.self.view_is) c.requires.few));
  known = omega arith;
}
