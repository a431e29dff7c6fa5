-- What a walk is after a step from where its next move is legal.
use Rattle.std.proofs.Common.{[], ap, arith, length, min, refl, subst, sym, take, ℕ, ◌++◌, ◌+◌, ◌-◌, ◌^◌, ◌∙◌, ◌∷◌, ◌≡◌, ◌≤◌}
use Rattle.bk_word.specs.Outline.{IsLegalMove, start}
use Rattle.bk_word.specs.Play.{IsComplete, outline_of}
use Rattle.bk_word.specs.Word.{Move, Word, order_of}
use Rattle.bk_word.specs.declared.Class.{Class}
use Rattle.bk_word.proofs.PlayLaws.{at_most_one_sign_more_than_squares, legal-snoc}
use Rattle.bk_word.proofs.StoredBytes.{order_one}
use Rattle.bk_catalogue.specs.Cuts.{IsBarren}
use Rattle.bk_catalogue.specs.NextMove.{first_move, move_after}
use Rattle.bk_catalogue.specs.Catalogue.{IsEntry}
use Rattle.bk_tiling.specs.Tiling.{Tiling}
use Rattle.bk_tree_walk.proofs.MemberEntries.{same_entry}
use Rattle.bk_walk_cuts.specs.MoveCuts.{GrowsByAtMostOne, IsCut}
use Rattle.bk_catalogue.specs.Repeated.{HasNoMember}
use Rattle.bk_tree_walk.specs.TreePlace.{IsKeptTreeWalk, IsReady, IsTreeWalkState, TreeWalkState, StaysOf, StepLeadsTo}
use Rattle.bk_tree_walk.specs.declared.Went.TheVariants.{Met, On}
use Rattle.bk_tree_walk.proofs.Standing.{step_cuts, step_goes_down, step_meets, step_past_barren}

-- nothing is pushed
pub stays_none : (s then : TreeWalkState) (steps : ℕ) → IsKeptTreeWalk s → then.order ≡ s.order → then.class ≡ s.class → then.pushes ≡ s.pushes
    → StaysOf s then steps steps
stays_none s then steps kept order of_class pushes = record {
  order = order;
  class = of_class;
  counts = record { more = omega arith; counted = omega (arith, pushes, kept.known) };
}

-- where nothing is pushed, a walk that goes on from other moves, or looks for another next one, keeps its order and class
pub stays_put : {s now : TreeWalkState} → IsKeptTreeWalk s → s ≡ now → (front : Word) (next : Move) (steps : ℕ)
    → StaysOf now (record { order = s.order; class = s.class; front = front; next = next; pushes = s.pushes }) steps steps
stays_put {s = s} {now = now} kept view front next steps =
    subst (λ (u : TreeWalkState). StaysOf u (record { order = s.order; class = s.class; front = front; next = next; pushes = s.pushes }) steps steps) view
    (stays_none s (record { order = s.order; class = s.class; front = front; next = next; pushes = s.pushes }) steps kept refl refl refl)

-- one move is pushed
pub stays_one : (s then : TreeWalkState) (steps steps_then : ℕ) → then.order ≡ s.order → then.class ≡ s.class → then.pushes ≡ min (s.pushes + 1) (2 ^ 64 - 1)
    → steps_then ≡ steps + 1 → StaysOf s then steps steps_then
stays_one s then steps steps_then order of_class pushes one = record {
  order = order;
  class = of_class;
  counts = record { more = omega (arith, one); counted = omega (arith, pushes, one) };
}

-- a legal move that leaves room in the order, played, leads to a place of a walk, whatever its next move is
pub played_stand : (n : ℕ) (front : Word) (x m : Move) → IsTreeWalkState n front x → IsLegalMove (outline_of front) m → order_of front + m.count ≤ n
    → IsTreeWalkState n (front ++ m ∷ []) x
played_stand n front x m stand legal few = record {
  legal = legal-snoc start front m stand.legal legal;
  small = omega (arith, few, order_one front m);
  some = stand.some;
  count = stand.count;
  signs = stand.signs;
}

module _ (s : TreeWalkState) (kept : IsKeptTreeWalk s) (ready : IsReady s) where
  -- the next move has few squares and signs
  pub count_few : s.next.count ≤ 16
  count_few = omega (arith, ready.few, kept.most)

  -- the next move of a ready walk has at most 18 signs
  pub next_move_has_at_most_18_signs : length s.next.signs ≤ 18
  next_move_has_at_most_18_signs = omega (arith, ready.few, kept.most, at_most_one_sign_more_than_squares (outline_of s.front) s.next ready.legal)

  -- where the next move of a ready walk is pushed, the moves are a word of the tree
  pub stand_down : IsTreeWalkState s.order (s.front ++ s.next ∷ []) s.next
  stand_down = played_stand s.order s.front s.next s.next kept.stand ready.legal ready.few

  -- over moves that are cut
  pub leads_over : (next : Move) (steps : ℕ) → IsCut s.order s.class s.front s.next next → GrowsByAtMostOne s.next next
      → StepLeadsTo s (record s { next = next }) (steps - steps) On
  leads_over next steps cut near = step_cuts s.order s.class s.front s.next kept.most kept.stand ready.legal next (steps - steps) cut near ready.few
      (omega arith)

  module _ (pushed : Word) (steps then : ℕ) (is : pushed ≡ s.front ++ s.next ∷ []) (one : then ≡ steps + 1) where
    -- down and back, where no member's word begins so
    pub leads_back : (popped : Word) (next : Move) → popped ≡ take (length pushed - 1) pushed → next ≡ move_after s.next → IsBarren s.order s.class pushed
        → StepLeadsTo s (record s { front = popped; next = next }) (then - steps) On
    leads_back popped next pop after barren = step_past_barren s.order s.class s.front s.next kept.most kept.stand ready.legal ready.few pushed is
        (then - steps) (omega (arith, one)) popped next pop after barren

    -- down, where the moves are no complete word of the order that a member has
    pub leads_down : (next : Move) → next ≡ first_move → (IsComplete pushed → order_of pushed ≡ s.order → HasNoMember s.class pushed)
        → StepLeadsTo s (record s { front = pushed; next = next }) (then - steps) On
    leads_down next first none = step_goes_down s.order s.class s.front s.next kept.most kept.stand ready.legal ready.few pushed is (then - steps)
        (omega (arith, one)) next first none

    -- to the word of a member
    pub leads_to : (next : Move) → StepLeadsTo s (record s { front = pushed; next = next }) (then - steps) Met
    leads_to next = step_meets s.order s.class s.front s.next kept.most kept.stand ready.legal ready.few pushed is (then - steps) (omega (arith, one))

-- the state after the push of a move, which stays the next
abbrev pub down_from : TreeWalkState → Move → TreeWalkState
down_from s m = record { order = s.order; class = s.class; front = s.front ++ m ∷ []; next = m; pushes = min (s.pushes + 1) (2 ^ 64 - 1) }

-- the state after another move is played: the next move stays
abbrev pub played_from : TreeWalkState → Move → TreeWalkState
played_from s m = record { order = s.order; class = s.class; front = s.front ++ m ∷ []; next = s.next; pushes = min (s.pushes + 1) (2 ^ 64 - 1) }

-- a move played in a walk counts as one push and keeps its order and class
pub stays_played : (s t : TreeWalkState) (m : Move) (steps then : ℕ) → t ≡ down_from s m → then ≡ steps + 1 → StaysOf s t steps then
stays_played s t m steps then is one = stays_one s t steps then (ap (λ (u : TreeWalkState). u.order) is) (ap (λ (u : TreeWalkState). u.class) is)
    (ap (λ (u : TreeWalkState). u.pushes) is) one

-- where a move was played, a walk that goes on from there has counted one push and keeps its order and class
pub stays_down : {s now t : TreeWalkState} → s ≡ now → (m : Move) → t ≡ down_from s m → (front : Word) (next : Move) (steps then : ℕ) → then ≡ steps + 1
    → StaysOf now (record { order = t.order; class = t.class; front = front; next = next; pushes = t.pushes }) steps then
stays_down {s = s} {now = now} {t = t} view m is front next steps then one =
    stays_one now (record { order = t.order; class = t.class; front = front; next = next; pushes = t.pushes }) steps then
    (ap (λ (u : TreeWalkState). u.order) is ∙ ap (λ (u : TreeWalkState). u.order) view)
    (ap (λ (u : TreeWalkState). u.class) is ∙ ap (λ (u : TreeWalkState). u.class) view)
    (ap (λ (u : TreeWalkState). u.pushes) is ∙ ap (λ (u : TreeWalkState). min (u.pushes + 1) (2 ^ 64 - 1)) view) one

-- from there: back, on or to the word of a member
module _ (s t : TreeWalkState) (kept : IsKeptTreeWalk s) (ready : IsReady s) (m : Move) (steps then : ℕ) (is : t ≡ down_from s m) (same : m ≡ s.next)
    (one : then ≡ steps + 1) where
  front_is : t.front ≡ s.front ++ s.next ∷ []
  front_is = ap (λ (u : TreeWalkState). u.front) is ∙ ap (λ (k : Move). s.front ++ k ∷ []) same

  order_is : t.order ≡ s.order
  order_is = ap (λ (u : TreeWalkState). u.order) is

  -- a barren move that is taken back leads the walk on to the move after it
  pub walked_back : (popped : Word) (next : Move) → popped ≡ take (length t.front - 1) t.front → next ≡ move_after t.next → IsBarren t.order s.class t.front
      → StepLeadsTo s (record s { front = popped; next = next }) (then - steps) On
  walked_back popped next pop after barren = leads_back s kept ready t.front steps then front_is one popped next pop
      (after ∙ ap move_after (ap (λ (u : TreeWalkState). u.next) is ∙ same)) (subst (λ (n : ℕ). IsBarren n s.class t.front) order_is barren)

  -- a barren move taken back leaves a place of a walk with the move after it next
  pub walked_back_stand : (popped : Word) (next : Move) → popped ≡ take (length t.front - 1) t.front → next ≡ move_after t.next
      → IsBarren t.order s.class t.front → IsTreeWalkState t.order popped next
  walked_back_stand popped next pop after barren = subst (λ (n : ℕ). IsTreeWalkState n popped next) (sym order_is) (walked_back popped next pop after barren).1

  -- a move that is played, and is no member's whole word, leads the walk on to a first move
  pub walked_down : (next : Move) → next ≡ first_move → (IsComplete t.front → order_of t.front ≡ t.order → HasNoMember t.class t.front)
      → StepLeadsTo s (record t { next = next }) (then - steps) On
  walked_down next first none = leads_down s kept ready t.front steps then front_is one next first
      (λ whole order. subst (λ (k : Class). HasNoMember k t.front) (ap (λ (u : TreeWalkState). u.class) is) (none whole (order ∙ sym order_is)))

  -- with the ready move played the walk meets the word of the moves so far
  pub walked_to : (next : Move) → StepLeadsTo s (record t { next = next }) (then - steps) Met
  walked_to next = leads_to s kept ready t.front steps then front_is one next

  -- an entry of the order and class that a walk has after a push is one of those that it had
  pub walked_entry : (tiling : Tiling) → IsEntry t.order t.class (record { tiling = tiling; word = t.front })
      → IsEntry s.order s.class (record { tiling = tiling; word = t.front })
  walked_entry tiling entry = same_entry s.order t.order s.class t.class t.front t.front tiling order_is (ap (λ (u : TreeWalkState). u.class) is) refl entry

-- no move is played
pub stand_first : (n : ℕ) (front : Word) (next : Move) → front ≡ [] → next ≡ first_move → IsTreeWalkState n front next
stand_first n front next e f = subst (λ (w : Word). IsTreeWalkState n w next) (sym e) (subst (IsTreeWalkState n []) (sym f)
    (record { legal = tt; small = omega arith; some = omega arith; count = omega arith; signs = omega arith }))

-- the next move is the first of all
pub stand_anew : (n : ℕ) (front : Word) (x next : Move) → IsTreeWalkState n front x → next ≡ first_move → IsTreeWalkState n front next
stand_anew n front x next stand first = subst (IsTreeWalkState n front) (sym first)
    (record { legal = stand.legal; small = stand.small; some = omega arith; count = omega arith; signs = omega arith })
