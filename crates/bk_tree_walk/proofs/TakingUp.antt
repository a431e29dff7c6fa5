-- A walk takes up its cursor: it plays the moves that are legal and few, one after another.
use Rattle.std.proofs.Common.{Some, [], ap, arith, drop, length, min, slice_get, subst, sym, take, ℕ, ◌++◌, ◌+◌, ◌-◌, ◌^◌, ◌∙◌, ◌∷◌, ◌≡◌, ◌≤◌}
use Rattle.std.proofs.lemmas.List.{length-append, take_all}
use Rattle.bk_laws.proofs.ListPlaces.{take-cons_drop, take-snoc_next}
use Rattle.bk_word.specs.KeptWord.{CanStand}
use Rattle.bk_word.specs.Outline.{IsLegalMove, start}
use Rattle.bk_word.specs.Play.{IsLegal, outline_of}
use Rattle.bk_word.specs.Word.{Move, Word, order_of}
use Rattle.bk_word.specs.declared.Class.{Class}
use Rattle.bk_word.proofs.StoredBytes.{order_append, order_more}
use Rattle.bk_word.proofs.PlayLaws.{legal-snoc}
use Rattle.bk_catalogue.proofs.TreeOfWords.Ranks.{IsSmallWord, small_from}
use Rattle.bk_tree_walk.proofs.WalkLoop.{counts_then}
use Rattle.bk_tree_walk.proofs.Starting.{begins_beside, none_passed_at_what_begins_with_the_cursor}
use Rattle.bk_catalogue.specs.NextMove.{first_move}
use Rattle.bk_tree_walk.specs.TreePlace.{HasPassed, IsTreeWalkState, TreeWalkState}
use Rattle.bk_catalogue.specs.Tree.{PushesGrow}
use Rattle.bk_tree_walk.proofs.StateLaws.{down_from}

-- as far as the cursor is taken up
pub record TakesUp (n : ℕ) (cursor first played : Word) (i pushes pushes_now steps steps_now : ℕ) : Type 0 where
  pub begun : take i cursor ≡ played
  pub legal : IsLegal played
  pub small : order_of played ≤ n
  pub one_each : steps_now + length first ≡ steps + length played
  pub counts : PushesGrow pushes pushes_now steps steps_now

-- one more move of the cursor is played
pub takes_more : (n : ℕ) (cursor first played more : Word) (m : Move) (i pushes now then steps sn st : ℕ) → TakesUp n cursor first played i pushes now steps sn
    → slice_get cursor i ≡ Some m → IsLegalMove (outline_of played) m → order_of played + m.count ≤ n → more ≡ played ++ m ∷ []
    → st ≡ sn + 1 → then ≡ min (now + 1) (2 ^ 64 - 1)
    → TakesUp n cursor first more (i + 1) pushes then steps st
takes_more n cursor first played more m i pushes now then steps sn st t g legal few e s p = record {
  begun = take-snoc_next cursor i m g ∙ ap (λ l. l ++ m ∷ []) t.begun ∙ sym e;
  legal = subst IsLegal (sym e) (legal-snoc start played m t.legal legal);
  small = omega (arith, ap order_of e, order_append played (m ∷ []), order_more m []);
  one_each = omega (arith, t.one_each, ap length e, length-append played (m ∷ []));
  counts = counts_then pushes now then steps sn st t.counts (record { more = omega arith; counted = p ∙ ap (λ k. min (now + k) (2 ^ 64 - 1)) (omega arith) });
}

-- a legal move of the cursor that is played takes up one move more
pub takes_down : (n : ℕ) (cursor first : Word) (s t : TreeWalkState) (m : Move) (i pushes steps sn st : ℕ) → s.order ≡ n
    → TakesUp n cursor first s.front i pushes s.pushes steps sn → slice_get cursor i ≡ Some m → IsLegalMove (outline_of s.front) m
    → order_of s.front + m.count ≤ s.order → t ≡ down_from s m → st ≡ sn + 1 → TakesUp n cursor first t.front (i + 1) pushes t.pushes steps st
takes_down n cursor first s t m i pushes steps sn st order up g legal few is one = takes_more n cursor first s.front t.front m i pushes s.pushes t.pushes
    steps sn st up g legal (omega (arith, few, order)) (ap (λ (u : TreeWalkState). u.front) is) one (ap (λ (u : TreeWalkState). u.pushes) is)

-- the cursor takes at most 16 steps
pub few_steps : (n : ℕ) (cursor first played : Word) (i pushes now steps sn : ℕ) → n ≤ 16
    → TakesUp n cursor first played i pushes now steps sn → sn ≤ steps + 16
few_steps n cursor first played i pushes now steps sn few t = omega (arith, t.one_each, s.few, t.small)
  where
    s : IsSmallWord n played
    s = small_from start played n t.legal t.small few

-- a move of the cursor that cannot be played
pub stuck_stand : (n : ℕ) (cursor first played : Word) (m : Move) (i pushes now steps sn : ℕ) → order_of cursor ≤ 16
    → TakesUp n cursor first played i pushes now steps sn → slice_get cursor i ≡ Some m → CanStand m → IsTreeWalkState n played m
stuck_stand n cursor first played m i pushes now steps sn few t g stands = record {
  legal = t.legal;
  small = t.small;
  some = stands.some;
  count = omega (arith, count);
  signs = omega (arith, count, stands.most);
}
  where
    count : m.count ≤ 16
    count = omega (
      arith,
      few,
      ap order_of (take-cons_drop cursor i m g),
      order_append (take i cursor) (m ∷ drop (i + 1) cursor),
      order_more m (drop (i + 1) cursor),
    )

-- the walk begins at this move
pub stuck_place : (n : ℕ) (class : Class) (cursor first played : Word) (m : Move) (i pushes now steps sn : ℕ)
    → TakesUp n cursor first played i pushes now steps sn → slice_get cursor i ≡ Some m
    → (IsLegalMove (outline_of played) m → order_of played + m.count ≤ n → ⊥) → HasPassed n class cursor (played ++ m ∷ []) 0
stuck_place n class cursor first played m i pushes now steps sn t g not =
    subst (λ (w : Word). HasPassed n class w (played ++ m ∷ []) 0)
    (sym (take-cons_drop cursor i m g ∙ ap (λ l. l ++ m ∷ drop (i + 1) cursor) t.begun)) (begins_beside n class played m (drop (i + 1) cursor) not)

-- all of the cursor is played: the walk begins with what begins with it
pub whole_place : (n : ℕ) (class : Class) (cursor first played : Word) (x : Move) (i pushes now steps sn : ℕ)
    → TakesUp n cursor first played i pushes now steps sn → length cursor ≤ i → x ≡ first_move
    → HasPassed n class cursor (played ++ x ∷ []) 0
whole_place n class cursor first played x i pushes now steps sn t h e =
    subst (λ (w : Word). HasPassed n class cursor (w ++ x ∷ []) 0) (sym (take_all i cursor h) ∙ t.begun)
    (subst (λ (m : Move). HasPassed n class cursor (cursor ++ m ∷ []) 0) (sym e) (none_passed_at_what_begins_with_the_cursor n class cursor))
