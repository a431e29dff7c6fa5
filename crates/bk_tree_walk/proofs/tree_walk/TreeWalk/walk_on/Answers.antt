use Rattle.std.proofs.Common.{[], subst, sym, ◌-◌, ◌∙◌, ◌≡◌, ◌∷◌, ap, arith, length}
use Rattle.bk_tree_walk.specs.TreePlace.{IsReady, IsTreeWalkState, TreeWalkState, StepLeadsTo}
use Rattle.bk_tree_walk.specs.declared.Went.{Went}
use Rattle.bk_tree_walk.specs.declared.Went.TheVariants.{Met, On}
use Rattle.bk_tree_walk.proofs.StateLaws.{count_few, leads_over, next_move_has_at_most_18_signs, stand_anew, stays_down, stays_put, walked_back}
use Rattle.bk_tree_walk.proofs.StateLaws.{walked_back_stand, walked_down, walked_entry, walked_to}
use Rattle.bk_catalogue.specs.Catalogue.{IsEntry}
use Rattle.bk_tree_walk.proofs.tree_walk.TreeWalk.walk_on.Goals.{else-is_members, then-is_members}
use Rattle.std.proofs.lemmas.List.{length-append}
use Rattle.bk_word.specs.Word.{Move}
use Rattle.bk_tree_walk.proofs.tree_walk.TreeWalk.walk_on.Goals as goal

-- the next move is legal
pub skip-requires-clause-legal : goal.skip-requires-clause-legal
skip-requires-clause-legal g c = (subst IsReady (sym c.self.view_is) c.requires).legal

pub skip-requires-clause-count : goal.skip-requires-clause-count
skip-requires-clause-count g c = count_few _ c.self.invariant (subst IsReady (sym c.self.view_is) c.requires)

pub skip-requires-clause-signs : goal.skip-requires-clause-signs
skip-requires-clause-signs g c = next_move_has_at_most_18_signs _ c.self.invariant (subst IsReady (sym c.self.view_is) c.requires)

pub skip-requires-clause-small : goal.skip-requires-clause-small
skip-requires-clause-small g c = (subst IsReady (sym c.self.view_is) c.requires).few

-- it is passed over
pub invariant_of-self : goal.invariant_of-self
invariant_of-self g c = record {
  least = c.self.invariant.least;
  most = c.self.invariant.most;
  stand = (leads_over _ c.self.invariant (subst IsReady (sym c.self.view_is) c.requires) c.skip.new.m c.args.steps.now (c.skip.ensures.cut c.if-skip.true)
      c.skip.ensures.near).1;
  known = c.self.invariant.known;
}

pub returns-then-skip-clause-stays : goal.returns-then-skip-clause-stays
returns-then-skip-clause-stays g c = stays_put c.self.invariant c.self.view_is _ _ _

pub returns-then-skip-clause-leads : goal.returns-then-skip-clause-leads
returns-then-skip-clause-leads g c = subst (λ (s : TreeWalkState). StepLeadsTo s (record s { front = c.self.inside.lined; next = c.skip.new.m })
    (c.args.steps.now - c.args.steps.now) On) c.self.view_is
    (leads_over _ c.self.invariant (subst IsReady (sym c.self.view_is) c.requires) c.skip.new.m c.args.steps.now (c.skip.ensures.cut c.if-skip.true)
    c.skip.ensures.near)

-- it is pushed
pub invariant_of-self-2 : goal.invariant_of-self-2
invariant_of-self-2 g c = record {
  least = c.self.invariant.least;
  most = c.self.invariant.most;
  stand = subst (IsTreeWalkState c.self.inside.order c.self.inside.lined) (sym (c.skip.ensures.kept c.if-skip.false)) c.self.invariant.stand;
  known = c.self.invariant.known;
}

pub next_move-requires-clause-count : goal.next_move-requires-clause-count
next_move-requires-clause-count g c = c.self-2.invariant.stand.count

pub next_move-requires-clause-signs : goal.next_move-requires-clause-signs
next_move-requires-clause-signs g c = c.self-2.invariant.stand.signs

pub returns-then-is_barren-clause-stays : goal.returns-then-is_barren-clause-stays
returns-then-is_barren-clause-stays g c =
    stays_down c.self.view_is c.skip.new.m (c.self-2.view_is ∙ c.go_down.ensures.state) _ _ _ _ c.go_down.ensures.step

pub invariant_of-self-3 : goal.invariant_of-self-3
invariant_of-self-3 g c = record {
  least = c.self-2.invariant.least;
  most = c.self-2.invariant.most;
  stand = stand_anew c.self-2.inside.order c.self-2.inside.lined c.self-2.inside.next c.begin_anew.new.m c.self-2.invariant.stand c.begin_anew.ensures;
  known = c.self-2.invariant.known;
}

pub returns-clause-stays : goal.returns-clause-stays
returns-clause-stays g c = stays_down c.self.view_is c.skip.new.m (c.self-2.view_is ∙ c.go_down.ensures.state) _ _ _ _ c.go_down.ensures.step

pub invariant_of-self-then-is_barren : goal.invariant_of-self-then-is_barren
invariant_of-self-then-is_barren g c = record {
  least = c.self-2.invariant.least;
  most = c.self-2.invariant.most;
  stand = walked_back_stand _ _ c.self.invariant (subst IsReady (sym c.self.view_is) c.requires) c.skip.new.m c.args.steps.now c.go_down.new.steps
      (c.self-2.view_is ∙ c.go_down.ensures.state) (c.skip.ensures.kept c.if-skip.false) c.go_down.ensures.step c.pop.new.self c.next_move.new.m
      c.pop.ensures c.next_move.ensures (c.is_barren.ensures c.if-is_barren.true c.self.inside.class);
  known = c.self-2.invariant.known;
}

pub returns-then-is_barren-clause-leads : goal.returns-then-is_barren-clause-leads
returns-then-is_barren-clause-leads g c = subst (λ (s : TreeWalkState). StepLeadsTo s (record s { front = c.pop.new.self; next = c.next_move.new.m })
    (c.go_down.new.steps - c.args.steps.now) On) c.self.view_is
    (walked_back _ _ c.self.invariant (subst IsReady (sym c.self.view_is) c.requires) c.skip.new.m c.args.steps.now c.go_down.new.steps
    (c.self-2.view_is ∙ c.go_down.ensures.state) (c.skip.ensures.kept c.if-skip.false) c.go_down.ensures.step c.pop.new.self c.next_move.new.m c.pop.ensures
    c.next_move.ensures (c.is_barren.ensures c.if-is_barren.true c.self.inside.class))

pub returns-clause-leads : goal.returns-clause-leads
returns-clause-leads g c =
    let was : TreeWalkState = record {
      order = c.self.inside.order;
      class = c.self.inside.class;
      front = c.self.inside.lined;
      next = c.self.inside.next;
      pushes = c.self.inside.pushes;
    } in
    let then : TreeWalkState = record was { front = c.self-2.inside.lined; next = c.begin_anew.new.m } in
    subst (λ (s : TreeWalkState). StepLeadsTo s then (c.go_down.new.steps - c.args.steps.now) c.if-is_members.result) c.self.view_is
    (elim c.if-is_members.branch [
      | then-is_members w ↦ subst (λ (r : Went). StepLeadsTo was then (c.go_down.new.steps - c.args.steps.now) r) (sym w.result-is)
          (walked_to _ _ c.self.invariant (subst IsReady (sym c.self.view_is) c.requires) c.skip.new.m c.args.steps.now c.go_down.new.steps
          (c.self-2.view_is ∙ c.go_down.ensures.state) (c.skip.ensures.kept c.if-skip.false) c.go_down.ensures.step c.begin_anew.new.m)
      | else-is_members w ↦ subst (λ (r : Went). StepLeadsTo was then (c.go_down.new.steps - c.args.steps.now) r) (sym w.result-is)
          (walked_down _ _ c.self.invariant (subst IsReady (sym c.self.view_is) c.requires) c.skip.new.m c.args.steps.now c.go_down.new.steps
          (c.self-2.view_is ∙ c.go_down.ensures.state) (c.skip.ensures.kept c.if-skip.false) c.go_down.ensures.step c.begin_anew.new.m
          c.begin_anew.ensures (c.is_members.ensures.none w.if-is_members.false))
    ])

-- on isn't there
not_met : On ≡ Met → ⊥
not_met e = cc

pub returns-then-skip-clause-member : goal.returns-then-skip-clause-member
returns-then-skip-clause-member g c = λ met. absurd (not_met met)

pub returns-then-is_barren-clause-member : goal.returns-then-is_barren-clause-member
returns-then-is_barren-clause-member g c = λ met. absurd (not_met met)

pub returns-clause-member : goal.returns-clause-member
returns-clause-member g c = elim c.if-is_members.branch [
  | then-is_members w ↦ λ _. subst (λ (s : TreeWalkState). IsEntry s.order s.class
      (record { tiling = c.is_members.new.tiling; word = c.self-2.inside.lined })) c.self.view_is
      (walked_entry _ _ c.self.invariant (subst IsReady (sym c.self.view_is) c.requires) c.skip.new.m c.args.steps.now c.go_down.new.steps
      (c.self-2.view_is ∙ c.go_down.ensures.state) (c.skip.ensures.kept c.if-skip.false) c.go_down.ensures.step c.is_members.new.tiling
      (c.is_members.ensures.yes w.if-is_members.true))
  | else-is_members w ↦ λ met. absurd (not_met (sym w.result-is ∙ met))
]

pub go_down-requires : goal.go_down-requires
go_down-requires g c = subst (λ (m : Move). IsReady (record {
  order = c.self.inside.order;
  class = c.self.inside.class;
  front = c.self.inside.lined;
  next = m;
  pushes = c.self.inside.pushes;
})) (sym (c.skip.ensures.kept c.if-skip.false)) (subst IsReady (sym c.self.view_is) c.requires)

pub pop-requires : goal.pop-requires
pop-requires g c = omega (
  arith,
  ap (λ (s : TreeWalkState). length s.front) (c.self-2.view_is ∙ c.go_down.ensures.state),
  length-append c.self.inside.lined (c.skip.new.m ∷ []),
)

pub is_members-requires : goal.is_members-requires
is_members-requires g c = record { order = c.self-2.invariant.most }
