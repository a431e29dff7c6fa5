use Rattle.std.proofs.Common.{[], ap, arith, subst, sym, ◌++◌, ◌+◌, ◌∷◌, ◌≡◌, ◌≤◌, ℕ, length, refl, take, ◌∙◌}
use Rattle.bk_word.specs.Outline.{IsLegalMove}
use Rattle.bk_word.specs.Play.{outline_of}
use Rattle.bk_word.specs.Word.{Word, order_of}
use Rattle.bk_tree_walk.specs.TreePlace.{HasPassed, IsTreeWalkState, TreeWalkState, IsKeptTreeWalk}
use Rattle.bk_tree_walk.proofs.LoopSteps.{stays_then, stays_same}
use Rattle.bk_tree_walk.proofs.StateLaws.{down_from, stays_played, stays_put, stand_anew}
use Rattle.bk_tree_walk.proofs.TakingUp.{few_steps, stuck_place, stuck_stand, takes_down, whole_place}
use Rattle.bk_tree_walk.proofs.tree_walk.TreeWalk.resume.Goals as goal

pub invariant_of-self : goal.invariant_of-self
invariant_of-self g c = record {
  least = c.self-in-moves.invariant.least;
  most = c.self-in-moves.invariant.most;
  stand = subst (λ (s : TreeWalkState). IsTreeWalkState s.order s.front c.get-self-inside.result) (sym c.self-in-moves.view_is)
      (subst (λ (n : ℕ). IsTreeWalkState n c.moves.self.front c.get-self-inside.result) (sym c.moves.invariant.stays.order)
      (stuck_stand c.args.self.now.order c.args.cursor.now c.args.self.now.front c.moves.self.front c.get-self-inside.result c.moves.i
      c.args.self.now.pushes c.moves.self.pushes c.args.steps.now c.moves.steps c.requires.few c.moves.invariant.up c.get-self-inside.ensures.value
      c.get-self-inside.ensures.stands));
  known = c.self-in-moves.invariant.known;
}

pub returns-then-not-can_play-clause-place : goal.returns-then-not-can_play-clause-place
returns-then-not-can_play-clause-place g c =
    let m = c.get-self-inside.result in
    subst (λ (w : Word). HasPassed c.args.self.now.order c.args.self.now.class c.args.cursor.now (w ++ m ∷ []) 0)
    (sym (ap (λ (s : TreeWalkState). s.front) c.self-in-moves.view_is))
    (stuck_place c.args.self.now.order c.args.self.now.class c.args.cursor.now c.args.self.now.front c.moves.self.front m c.moves.i
    c.args.self.now.pushes c.moves.self.pushes c.args.steps.now c.moves.steps c.moves.invariant.up c.get-self-inside.ensures.value
    (subst (λ (n : ℕ). IsLegalMove (outline_of c.moves.self.front) m → order_of c.moves.self.front + m.count ≤ n → ⊥) c.moves.invariant.stays.order
    (subst (λ (s : TreeWalkState). IsLegalMove (outline_of s.front) m → order_of s.front + m.count ≤ s.order → ⊥) c.self-in-moves.view_is
    (c.can_play.ensures.no c.if-not-can_play.true))))

pub returns-then-not-can_play-clause-few : goal.returns-then-not-can_play-clause-few
returns-then-not-can_play-clause-few g c = few_steps c.args.self.now.order c.args.cursor.now c.args.self.now.front c.moves.self.front c.moves.i
    c.args.self.now.pushes c.moves.self.pushes c.args.steps.now c.moves.steps
    (omega (arith, c.self.invariant.most, ap (λ (s : TreeWalkState). s.order) c.self.view_is)) c.moves.invariant.up

pub moves-preserved : goal.moves-preserved
moves-preserved g c =
    let m = c.get-self-inside.result in
    let is = subst (λ (s : TreeWalkState). c.go_down.new.self ≡ down_from s m) c.self-in-moves.view_is c.go_down.ensures.state in
    record {
      up = takes_down c.args.self.now.order c.args.cursor.now c.args.self.now.front c.moves.self c.go_down.new.self m c.moves.i
          c.args.self.now.pushes c.args.steps.now c.moves.steps c.go_down.new.steps c.moves.invariant.stays.order c.moves.invariant.up
          c.get-self-inside.ensures.value
          (subst (λ (s : TreeWalkState). IsLegalMove (outline_of s.front) m) c.self-in-moves.view_is (c.can_play.ensures.legal c.if-not-can_play.false))
          (subst (λ (s : TreeWalkState). order_of s.front + m.count ≤ s.order) c.self-in-moves.view_is (c.can_play.ensures.few c.if-not-can_play.false))
          is c.go_down.ensures.step;
      stays = stays_then c.args.self.now c.moves.self c.go_down.new.self c.args.steps.now c.moves.steps c.go_down.new.steps c.moves.invariant.stays
          (stays_played c.moves.self c.go_down.new.self m c.moves.steps c.go_down.new.steps is c.go_down.ensures.step);
    }

pub returns-clause-place : goal.returns-clause-place
returns-clause-place g c = subst (λ (w : Word). HasPassed c.args.self.now.order c.args.self.now.class c.args.cursor.now (w ++ c.begin_anew.new.m ∷ []) 0)
    (sym (ap (λ (s : TreeWalkState). s.front) c.self-2.view_is))
    (whole_place c.args.self.now.order c.args.self.now.class c.args.cursor.now c.args.self.now.front c.moves.self.front c.begin_anew.new.m c.moves.i
    c.args.self.now.pushes c.moves.self.pushes c.args.steps.now c.moves.steps c.moves.invariant.up
    (omega (arith, c.moves-test.false, c.moves-i-end.ensures.value)) c.begin_anew.ensures)

pub returns-clause-few : goal.returns-clause-few
returns-clause-few g c = few_steps c.args.self.now.order c.args.cursor.now c.args.self.now.front c.moves.self.front c.moves.i
    c.args.self.now.pushes c.moves.self.pushes c.args.steps.now c.moves.steps
    (omega (arith, c.self.invariant.most, ap (λ (s : TreeWalkState). s.order) c.self.view_is)) c.moves.invariant.up

pub returns-then-not-can_play-clause-stays : goal.returns-then-not-can_play-clause-stays
returns-then-not-can_play-clause-stays g c = stays_then c.args.self.now c.moves.self _ c.args.steps.now c.moves.steps c.moves.steps c.moves.invariant.stays
    (stays_put c.self-in-moves.invariant c.self-in-moves.view_is _ _ _)

pub returns-clause-stays : goal.returns-clause-stays
returns-clause-stays g c = stays_then c.args.self.now c.moves.self _ c.args.steps.now c.moves.steps c.moves.steps c.moves.invariant.stays
    (stays_put c.self-2.invariant c.self-2.view_is _ _ _)

pub moves-init : goal.moves-init
moves-init g c =
    let kept = subst IsKeptTreeWalk c.self.view_is c.self.invariant in
    let stays = stays_same c.args.self.now c.args.steps.now kept in
    let played = c.moves-i.ensures.value ∙ ap length c.skel.ensures.value ∙ ap (λ (s : TreeWalkState). length s.front) c.self.view_is in
    record {
      up = record {
        begun = ap (λ k. take k c.args.cursor.now) played ∙ c.requires.begun;
        legal = kept.stand.legal;
        small = kept.stand.small;
        one_each = refl;
        counts = stays.counts;
      };
      stays = stays;
    }

pub get-self-inside-requires : goal.get-self-inside-requires
get-self-inside-requires g c = omega (arith, c.moves-test.true, c.moves-i-end.ensures.value)

pub can_play-requires : goal.can_play-requires
can_play-requires g c = c.get-self-inside.ensures.few

pub go_down-requires : goal.go_down-requires
go_down-requires g c = record { legal = c.can_play.ensures.legal c.if-not-can_play.false; few = c.can_play.ensures.few c.if-not-can_play.false }

pub invariant_of-self-in-moves : goal.invariant_of-self-in-moves
invariant_of-self-in-moves g c = record {
  least = c.self-in-moves.invariant.least;
  most = c.self-in-moves.invariant.most;
  stand = subst (λ (s : TreeWalkState). IsTreeWalkState s.order s.front c.get-self-inside.result) (sym c.self-in-moves.view_is)
      (subst (λ (n : ℕ). IsTreeWalkState n c.moves.self.front c.get-self-inside.result) (sym c.moves.invariant.stays.order)
      (stuck_stand c.args.self.now.order c.args.cursor.now c.args.self.now.front c.moves.self.front c.get-self-inside.result c.moves.i
      c.args.self.now.pushes c.moves.self.pushes c.args.steps.now c.moves.steps c.requires.few c.moves.invariant.up c.get-self-inside.ensures.value
      c.get-self-inside.ensures.stands));
  known = c.self-in-moves.invariant.known;
}

pub invariant_of-self-2 : goal.invariant_of-self-2
invariant_of-self-2 g c = record {
  least = c.self-2.invariant.least;
  most = c.self-2.invariant.most;
  stand = stand_anew c.self-2.inside.order c.self-2.inside.lined c.self-2.inside.next c.begin_anew.new.m c.self-2.invariant.stand c.begin_anew.ensures;
  known = c.self-2.invariant.known;
}
