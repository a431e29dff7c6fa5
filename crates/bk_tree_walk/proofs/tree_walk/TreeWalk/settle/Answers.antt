use Rattle.bk_tree_walk.proofs.PlaceLaws.{settled_back, settled_back_leads, settled_end, settled_on, settled_stand}
use Rattle.bk_tree_walk.proofs.StateLaws.{stand_first, stays_put}
use Rattle.std.proofs.Common.{arith}
use Rattle.bk_tree_walk.proofs.tree_walk.TreeWalk.settle.Goals as goal

pub invariant_of-self : goal.invariant_of-self
invariant_of-self c = record {
  least = c.self.invariant.least;
  most = c.self.invariant.most;
  stand = settled_stand c.self.view_is c.self.invariant c.least_legal_from.new.m c.open_sides.result c.least_legal_from.ensures c.open_sides.ensures.value
      (c.hangs_over.ensures.few c.if-not-hangs_over.true);
  known = c.self.invariant.known;
}

pub returns-then-not-hangs_over-clause-settles : goal.returns-then-not-hangs_over-clause-settles
returns-then-not-hangs_over-clause-settles c = settled_on c.self.view_is c.self.invariant c.least_legal_from.new.m c.open_sides.result
    c.least_legal_from.ensures c.open_sides.ensures.value (c.hangs_over.ensures.few c.if-not-hangs_over.true)

pub invariant_of-self-then-climb : goal.invariant_of-self-then-climb
invariant_of-self-then-climb c = record {
  least = c.self.invariant.least;
  most = c.self.invariant.most;
  stand = (settled_back_leads c.self.view_is c.self.invariant c.least_legal_from.new.m c.open_sides.result c.least_legal_from.ensures
      c.open_sides.ensures.value c.climb.new.lined c.climb.new.next (c.climb.ensures.on c.if-climb.true)
      (c.hangs_over.ensures.over c.if-not-hangs_over.false)).1;
  known = c.self.invariant.known;
}

pub returns-then-climb-clause-settles : goal.returns-then-climb-clause-settles
returns-then-climb-clause-settles c = settled_back c.self.view_is c.self.invariant c.least_legal_from.new.m c.open_sides.result
    c.least_legal_from.ensures c.open_sides.ensures.value c.climb.new.lined c.climb.new.next (c.climb.ensures.on c.if-climb.true)
    (c.hangs_over.ensures.over c.if-not-hangs_over.false)

pub invariant_of-self-2 : goal.invariant_of-self-2
invariant_of-self-2 c = record {
  least = c.self.invariant.least;
  most = c.self.invariant.most;
  stand = stand_first c.self.inside.order c.climb.new.lined c.begin_anew.new.m (c.climb.ensures.kept c.if-climb.false) c.begin_anew.ensures;
  known = c.self.invariant.known;
}

pub returns-clause-settles : goal.returns-clause-settles
returns-clause-settles c = settled_end c.self.view_is c.self.invariant c.least_legal_from.new.m c.open_sides.result c.least_legal_from.ensures
    c.open_sides.ensures.value c.climb.new.lined c.begin_anew.new.m (c.climb.ensures.end c.if-climb.false) (c.climb.ensures.kept c.if-climb.false)
    (c.hangs_over.ensures.over c.if-not-hangs_over.false)

pub returns-then-not-hangs_over-clause-stays : goal.returns-then-not-hangs_over-clause-stays
returns-then-not-hangs_over-clause-stays c = stays_put c.self.invariant c.self.view_is _ _

pub returns-then-climb-clause-stays : goal.returns-then-climb-clause-stays
returns-then-climb-clause-stays c = stays_put c.self.invariant c.self.view_is _ _

pub returns-clause-stays : goal.returns-clause-stays
returns-clause-stays c = stays_put c.self.invariant c.self.view_is _ _

pub least_legal_from-requires-clause-some : goal.least_legal_from-requires-clause-some
least_legal_from-requires-clause-some c = c.self.invariant.stand.some

pub least_legal_from-requires-clause-count : goal.least_legal_from-requires-clause-count
least_legal_from-requires-clause-count c = c.self.invariant.stand.count

pub least_legal_from-requires-clause-signs : goal.least_legal_from-requires-clause-signs
least_legal_from-requires-clause-signs c = c.self.invariant.stand.signs

pub least_legal_from-requires-clause-sides : goal.least_legal_from-requires-clause-sides
least_legal_from-requires-clause-sides c = c.open_sides.ensures.few

pub climb-requires : goal.climb-requires
climb-requires c = record { small = omega (arith, c.self.invariant.stand.small, c.self.invariant.most) }
