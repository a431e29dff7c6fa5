-- A place where the next move is made legal: nothing lies between it and the one before.
use Rattle.std.specs.declared.cmp.Ordering.TheVariants.{Less}
use Rattle.std.proofs.Common.{None, Some, [], ap, arith, drop, inl, inr, subst, sym, take, ℕ, ◌++◌, ◌+◌, ◌-◌, ◌<◌, ◌∙◌, ◌∷◌, ◌≡◌, ◌≤◌, ◌⊎◌}
use Rattle.std.proofs.lemmas.List.{take-append-drop}
use Rattle.bk_word.specs.Outline.{IsLegalMove, open_sides, start}
use Rattle.bk_word.specs.Play.{IsLegal, outline_of}
use Rattle.bk_word.specs.Word.{Follows, Move, Word, move_cmp, order_of}
use Rattle.bk_word.specs.declared.Class.{Class}
use Rattle.bk_word.proofs.PlayLaws.{at_most_one_sign_more_than_squares, legal_front}
use Rattle.bk_word.proofs.StoredBytes.{order_append}
use Rattle.bk_word.proofs.WordOrder.{follows_trans}
use Rattle.bk_catalogue.specs.Catalogue.{Entry, IsEntry}
use Rattle.bk_catalogue.specs.NextMove.{IsLeastFrom, fitted}
use Rattle.bk_tree_walk.proofs.Advancing.{none_left_is_end, entry_word, moved_on}
use Rattle.bk_tree_walk.proofs.Passing.{IsOver, move_over}
use Rattle.bk_tree_walk.proofs.WalkSteps.{at_or_after, fewer_end, up_by_move}
use Rattle.bk_tree_walk.proofs.Standing.{step_climbs, step_ends, step_least}
use Rattle.bk_tree_walk.specs.TreePlace.{Advances, Ends, HasPassed, IsClimbed, IsKeptTreeWalk, IsTreeWalkState, TreeWalkState, SettlesTo, StepLeadsTo, place_of}
use Rattle.bk_tree_walk.specs.declared.Went.{Went}
use Rattle.bk_tree_walk.specs.declared.Went.TheVariants.{End, Met, On}

-- from a place to that of the least legal move that isn't before it
module _ (n : ℕ) (class : Class) (front : Word) (x m : Move) (least : IsLeastFrom (outline_of front) x m) where
  -- what was passed there is passed here
  fits_on : (cursor : Word) (met : ℕ) → HasPassed n class cursor (front ++ x ∷ []) met → HasPassed n class cursor (front ++ m ∷ []) met
  fits_on cursor met p = cases (at_or_after x m least.from)
    where
      none : (e : Entry) → IsEntry n class e → (Follows (front ++ x ∷ []) e.word → ⊥) → Follows (front ++ m ∷ []) e.word → ⊥
      none e is from to = by_move (move_over n front x m m e.word (entry_word n class e is) least from to)
        where
          by_move : IsOver front m m e.word → ⊥
          by_move o = o.from o.to

      cases : (move_cmp x m ≡ Less) ⊎ (x ≡ m) → HasPassed n class cursor (front ++ m ∷ []) met
      cases (inl f) = moved_on n class (front ++ x ∷ []) (front ++ m ∷ []) (up_by_move front x m [] [] f) none cursor met p
      cases (inr e) = subst (λ (k : Move). HasPassed n class cursor (front ++ k ∷ []) met) e p

  -- what is behind the one is behind the other
  up_from : (w : Word) → Follows w (front ++ m ∷ []) → Follows w (front ++ x ∷ [])
  up_from w f = cases (at_or_after x m least.from)
    where
      cases : (move_cmp x m ≡ Less) ⊎ (x ≡ m) → Follows w (front ++ x ∷ [])
      cases (inl e) = follows_trans (front ++ x ∷ []) (front ++ m ∷ []) w (up_by_move front x m [] [] e) f
      cases (inr e) = subst (λ (k : Move). Follows w (front ++ k ∷ [])) (sym e) f

  -- where what is behind one place is behind another, a step from the one leads where it leads from the other
  pub step_from : (pushes : ℕ) (last : TreeWalkState) (met : ℕ) (went : Went)
      → StepLeadsTo (record { order = n; class = class; front = front; next = m; pushes = pushes }) last met went
      → StepLeadsTo (record { order = n; class = class; front = front; next = x; pushes = pushes }) last met went
  step_from pushes last met On leads = (
    record { up = up_from (place_of last) (leads.0).up; on = λ cursor before p. (leads.0).on cursor before (fits_on cursor before p) },
    leads.1,
  )
  step_from pushes last met Met leads = λ cursor before p. leads cursor before (fits_on cursor before p)
  step_from pushes last met End leads = (λ cursor before p. leads.0 cursor before (fits_on cursor before p), leads.1)

-- at a legal move that hangs no more squares than are left, a walk can stand
pub legal_stand : (n : ℕ) (front : Word) (x m : Move) → n ≤ 16 → IsTreeWalkState n front x → IsLegalMove (outline_of front) m → order_of front + m.count ≤ n
    → IsTreeWalkState n front m
legal_stand n front x m most s legal few = record {
  legal = s.legal;
  small = s.small;
  some = legal.some;
  count = omega (arith, few, most);
  signs = omega (arith, at_most_one_sign_more_than_squares (outline_of front) m legal, few, most);
}

-- a walk that stands at a place stands with the first of its moves alone
pub shortened_stand : (n : ℕ) (front : Word) (x : Move) (moves : ℕ) → IsTreeWalkState n front x → IsTreeWalkState n (take moves front) x
shortened_stand n front x moves s = record {
  legal = legal_front start (take moves front) (drop moves front) (subst IsLegal (sym (take-append-drop moves front)) s.legal);
  small = omega (arith, s.small, ap order_of (take-append-drop moves front), order_append (take moves front) (drop moves front));
  some = s.some;
  count = s.count;
  signs = s.signs;
}

-- a walk settles by the move that fits
module _ {s now : TreeWalkState} (view : s ≡ now) (kept : IsKeptTreeWalk s) (m : Move) (sides : ℕ) (fits : m ≡ fitted sides s.next)
    (all_open : sides ≡ open_sides (outline_of s.front)) where
  fit : m ≡ fitted (open_sides (outline_of s.front)) s.next
  fit = fits ∙ ap (λ (i : ℕ). fitted i s.next) all_open

  least : IsLeastFrom (outline_of s.front) s.next m
  least = step_least s.order s.front s.next m kept.stand fit

  abbrev moved : Word → Move → TreeWalkState
  moved front next = record { order = s.order; class = s.class; front = front; next = next; pushes = s.pushes }

  -- a walk whose next move fits stands there with it, where it is ready
  pub settled_stand : order_of s.front + m.count ≤ s.order → IsTreeWalkState s.order s.front m
  settled_stand few = legal_stand s.order s.front s.next m kept.most kept.stand least.legal few

  -- a next move with few enough squares settles the walk as it is, with the legal move next
  pub settled_on : order_of s.front + m.count ≤ s.order → SettlesTo now (moved s.front m) None
  settled_on few = subst (λ (u : TreeWalkState). SettlesTo u (moved s.front m) None) view
      (record { legal = least.legal; few = few }, step_from s.order s.class s.front s.next m least s.pushes)

  -- back, after the last move
  pub settled_back_leads : (new : Word) (next : Move) → IsClimbed s.front new next → s.order < order_of s.front + m.count
      → Advances s.order s.class (place_of s) (new ++ next ∷ []) 0 × IsTreeWalkState s.order new next
  settled_back_leads new next climbed many = step_climbs s.order s.class s.front s.next m kept.most kept.stand fit new next 0 climbed many (omega arith)

  -- a next move with too many squares leads the walk to the place to which it climbs back
  pub settled_back : (new : Word) (next : Move) → IsClimbed s.front new next → s.order < order_of s.front + m.count
      → SettlesTo now (moved new next) (Some On)
  settled_back new next climbed many = subst (λ (u : TreeWalkState). SettlesTo u (moved new next) (Some On)) view (settled_back_leads new next climbed many)

  -- at the end
  pub settled_end : (new : Word) (next : Move) → s.front ≡ [] → new ≡ [] → s.order < order_of s.front + m.count → SettlesTo now (moved new next) (Some End)
  settled_end new next none empty many = subst (λ (u : TreeWalkState). SettlesTo u (moved new next) (Some End)) view
      (step_ends s.order s.class s.front s.next m kept.most kept.stand fit 0 none many (omega arith), empty)

-- where a walk settles it does without a step
pub settled_leads : (s then : TreeWalkState) (went : Went) (steps : ℕ) → SettlesTo s then (Some went)
    → StepLeadsTo s then (steps - steps) went
settled_leads s then went steps settled = subst (λ (met : ℕ). StepLeadsTo s then met went)
    (sym (none_between steps)) (cases went settled)
  where
    none_between : (k : ℕ) → k - k ≡ 0
    none_between k = omega arith

    cases : (w : Went) → SettlesTo s then (Some w) → StepLeadsTo s then 0 w
    cases On leads = leads
    cases Met never = absurd never
    cases End leads = leads

-- a walk that settles never does so at a member's word
pub settled_unmet : (s then : TreeWalkState) (went : Went) → SettlesTo s then (Some went) → went ≡ Met → ⊥
settled_unmet s then On leads e = absurd (cc)
settled_unmet s then Met never e = never
settled_unmet s then End leads e = absurd (cc)

-- where nothing is told to be left, the walk ends
pub ends_there : (n : ℕ) (class : Class) (place : Word) (met : ℕ) → ((e : Entry) → IsEntry n class e → (Follows place e.word → ⊥) → ⊥) → met ≤ 0
    → Ends n class place met
ends_there n class place met none few cursor before p =
    fewer_end n class cursor before (before + met) (omega arith) (none_left_is_end n class place cursor before none p)
