-- The steps of a walk: it climbs from a state with no move left, passes over moves that are cut, and pushes a move.
use Rattle.std.specs.declared.cmp.Ordering.{Ordering}
use Rattle.std.specs.declared.cmp.Ordering.TheVariants.{Equal, Greater, Less}
use Rattle.std.specs.Ordering.{ordering_reverse, ordering_then}
use Rattle.std.proofs.Common.{[], ap, append_assoc, arith, inl, inr, length, refl, subst, sym, ℕ, ◌++◌, ◌+◌, ◌<◌, ◌∙◌, ◌∷◌, ◌≡◌, ◌≤◌, ◌⊎◌}
use Rattle.std.proofs.lemmas.List.{append-nil, length-append}
use Rattle.bk_word.proofs.WordOrder.{follows_trans, move_total, move_itself, move_same}
use Rattle.bk_word.specs.Outline.{IsLegalMove, start}
use Rattle.bk_word.specs.Play.{IsLegal, outline_of}
use Rattle.bk_word.specs.Word.{Follows, Move, Word, move_cmp, order_of, word_cmp}
use Rattle.bk_word.specs.declared.Class.{Class}
use Rattle.bk_word.proofs.StoredBytes.{order_append, order_more}
use Rattle.bk_word.proofs.PlayLaws.{legal-snoc}
use Rattle.bk_tree_walk.proofs.Advancing.{none_left_is_end, entry_word, met_at, met_on, moved_on}
use Rattle.bk_catalogue.proofs.TreeOfWords.MoveOrder.{begun_before, moves_between}
use Rattle.bk_tree_walk.proofs.Passing.{IsOver, climb_over, end_over, move_over, push_over}
use Rattle.bk_catalogue.proofs.TreeOfWords.Places.{IsLast, before_one, front_cmp, one_legal}
use Rattle.bk_word.proofs.FollowLaws.{not_itself}
use Rattle.bk_catalogue.specs.Catalogue.{Entry, IsEntry}
use Rattle.bk_catalogue.specs.Cuts.{IsBarren}
use Rattle.bk_walk_cuts.specs.MoveCuts.{IsCut}
use Rattle.bk_catalogue.specs.NextMove.{IsLeastFrom, IsMoveFrom, first_move, move_after}
use Rattle.bk_tree_walk.specs.TreePlace.{Advances, Ends, HasPassed, IsEnd, IsMet, IsTreeWord, Meets}

-- a search that has passed more words up to a place has passed fewer
pub fewer_met : (n : ℕ) (class : Class) (cursor place : Word) (more met : ℕ) → met ≤ more → HasPassed n class cursor place more
    → HasPassed n class cursor place met
fewer_met n class cursor place more met h p =
    record { passed = p.passed; after = p.after; words = p.words; each = p.each; ascending = p.ascending; count = omega (arith, p.count) }

-- a search that ends with more words met ends with fewer met
pub fewer_end : (n : ℕ) (class : Class) (cursor : Word) (more met : ℕ) → met ≤ more → IsEnd n class cursor more → IsEnd n class cursor met
fewer_end n class cursor more met h p = let c = p.count in
    record { passed = p.passed; count = record { words = c.words; each = c.each; ascending = c.ascending; count = omega (arith, c.count) } }

-- a search that meets a word with more words met meets it with fewer met
pub fewer_at : (n : ℕ) (class : Class) (cursor word : Word) (more met : ℕ) → met ≤ more → IsMet n class cursor word more → IsMet n class cursor word met
fewer_at n class cursor word more met h p = let c = p.count in
    record { after = p.after; passed = p.passed; count = record { words = c.words; each = c.each; ascending = c.ascending; count = omega (arith, c.count) } }

-- a move that is not before x stands at or after it
pub at_or_after : (x m : Move) → IsMoveFrom x m → (move_cmp x m ≡ Less) ⊎ (x ≡ m)
at_or_after x m from = cases (move_cmp m x) refl
  where
    cases : (r : Ordering) → move_cmp m x ≡ r → (move_cmp x m ≡ Less) ⊎ (x ≡ m)
    cases Less e = absurd (from e)
    cases Equal e = inr (sym (move_same m x e))
    cases Greater e = inl (move_total.antisymm x m ∙ ap ordering_reverse e)

from_less : (x m next : Move) → IsMoveFrom x m → move_cmp m next ≡ Less → move_cmp x next ≡ Less
from_less x m next from e = cases (at_or_after x m from)
  where
    cases : (move_cmp x m ≡ Less) ⊎ (x ≡ m) → move_cmp x next ≡ Less
    cases (inl f) = move_total.trans x m next f e
    cases (inr f) = ap (λ z. move_cmp z next) f ∙ e

-- where the moves ascend, so do the words
pub up_by_move : (front : Word) (x next : Move) (rest more : Word) → move_cmp x next ≡ Less → Follows (front ++ next ∷ more) (front ++ x ∷ rest)
up_by_move front x next rest more e = front_cmp front (x ∷ rest) (next ∷ more) ∙ ap (λ z. ordering_then z (word_cmp rest more)) e

after_itself : (m : Move) → move_cmp m (move_after m) ≡ Less
after_itself m = begun_before m m refl (record { rest = []; is = sym (append-nil m.signs) })

-- where no legal move is left, the walk goes on after the last move that was played
pub walk_goes_on_after_last : (n : ℕ) (class : Class) (front : Word) (l x : Move) (met : ℕ) → IsLegalMove (outline_of front) l → IsLast n (front ++ l ∷ []) x
    → met ≤ 0
    → Advances n class ((front ++ l ∷ []) ++ x ∷ []) (front ++ move_after l ∷ []) met
walk_goes_on_after_last n class front l x met legal last few =
    record {
      up = up;
      on = λ cursor before p. fewer_met n class cursor (front ++ move_after l ∷ []) before (before + met) (omega arith)
          (moved_on n class ((front ++ l ∷ []) ++ x ∷ []) (front ++ move_after l ∷ []) up none cursor before p);
    }
  where
    up : Follows (front ++ move_after l ∷ []) ((front ++ l ∷ []) ++ x ∷ [])
    up = ap (λ z. word_cmp z (front ++ move_after l ∷ [])) (append_assoc front (l ∷ []) (x ∷ []))
        ∙ up_by_move front l (move_after l) (x ∷ []) [] (after_itself l)

    none : (e : Entry) → IsEntry n class e → (Follows ((front ++ l ∷ []) ++ x ∷ []) e.word → ⊥) → Follows (front ++ move_after l ∷ []) e.word → ⊥
    none e is from to = climb_over n front l x e.word (entry_word n class e is) legal last from to

-- a walk goes on over moves that are cut
pub walk_goes_on_over_cuts : (n : ℕ) (class : Class) (front : Word) (x m next : Move) (met : ℕ) → IsLeastFrom (outline_of front) x m
    → IsCut n class front m next → met ≤ 0
    → Advances n class (front ++ x ∷ []) (front ++ next ∷ []) met
walk_goes_on_over_cuts n class front x m next met least cut few =
    record {
      up = up;
      on = λ cursor before p. fewer_met n class cursor (front ++ next ∷ []) before (before + met) (omega arith)
          (moved_on n class (front ++ x ∷ []) (front ++ next ∷ []) up none cursor before p);
    }
  where
    up : Follows (front ++ next ∷ []) (front ++ x ∷ [])
    up = up_by_move front x next [] [] (from_less x m next least.from cut.up)

    none : (e : Entry) → IsEntry n class e → (Follows (front ++ x ∷ []) e.word → ⊥) → Follows (front ++ next ∷ []) e.word → ⊥
    none e is from to = by_move (move_over n front x m next e.word (entry_word n class e is) least from to)
      where
        by_move : IsOver front m next e.word → ⊥
        by_move o = cut.barren o.other o.legal o.from o.to e o.rest is (o.is ∙ sym (append_assoc front (o.other ∷ []) o.rest))

-- where no move is played and no legal one is left, it ends
pub walk_ends_without_moves : (n : ℕ) (class : Class) (x : Move) (met : ℕ) → IsLast n [] x → met ≤ 0 → Ends n class (x ∷ []) met
walk_ends_without_moves n class x met last few cursor before p =
    fewer_end n class cursor before (before + met) (omega arith) (none_left_is_end n class (x ∷ []) cursor before
    (λ e is from. end_over n x e.word (entry_word n class e is) last from) p)

-- a move is pushed
module _ (n : ℕ) (class : Class) (front : Word) (x m : Move) (met : ℕ) (legal : IsLegal front) (least : IsLeastFrom (outline_of front) x m)
    (small : order_of front + m.count ≤ n) (few : met ≤ 1) where
  -- the moves that are played then are a word of the tree
  pub pushed_tree : IsTreeWord n (front ++ m ∷ [])
  pushed_tree = record { legal = legal-snoc start front m legal least.legal; small = omega (arith, order_append front (m ∷ []), order_more m []) }

  pushed_some : 0 < length (front ++ m ∷ [])
  pushed_some = omega (arith, length-append front (m ∷ []))

  pushed_from : Follows (front ++ x ∷ []) (front ++ m ∷ []) → ⊥
  pushed_from f = least.from (before_one m x [] (sym (front_cmp front (m ∷ []) (x ∷ [])) ∙ f))

  up_on : Follows ((front ++ m ∷ []) ++ first_move ∷ []) (front ++ x ∷ [])
  up_on = ap (word_cmp (front ++ x ∷ [])) (append_assoc front (m ∷ []) (first_move ∷ [])) ∙ cases (at_or_after x m least.from)
    where
      cases : (move_cmp x m ≡ Less) ⊎ (x ≡ m) → Follows (front ++ m ∷ first_move ∷ []) (front ++ x ∷ [])
      cases (inl f) = up_by_move front x m [] (first_move ∷ []) f
      cases (inr f) = front_cmp front (x ∷ []) (m ∷ first_move ∷ []) ∙ ap (λ z. word_cmp (z ∷ []) (m ∷ first_move ∷ [])) f
          ∙ ap (λ z. ordering_then z (word_cmp [] (first_move ∷ []))) (move_itself m)

  to_on : Follows ((front ++ m ∷ []) ++ first_move ∷ []) (front ++ m ∷ [])
  to_on = ap (word_cmp (front ++ m ∷ [])) (append_assoc front (m ∷ []) (first_move ∷ [])) ∙ front_cmp front (m ∷ []) (m ∷ first_move ∷ [])
      ∙ ap (λ z. ordering_then z (word_cmp [] (first_move ∷ []))) (move_itself m)

  -- where no member has this word, the walk goes on to what begins with it
  pub goes_down : ((e : Entry) → IsEntry n class e → e.word ≡ front ++ m ∷ [] → ⊥)
      → Advances n class (front ++ x ∷ []) ((front ++ m ∷ []) ++ first_move ∷ []) met
  goes_down not = record {
    up = up_on;
    on = λ cursor before p. fewer_met n class cursor ((front ++ m ∷ []) ++ first_move ∷ []) (before + 1) (before + met) (omega arith)
        (met_on n class (front ++ x ∷ []) ((front ++ m ∷ []) ++ first_move ∷ []) up_on
        (λ e is from to. not e is (push_over n front x m e.word (entry_word n class e is) least from to)) cursor before p (front ++ m ∷ [])
        pushed_tree pushed_some pushed_from to_on);
  }

  to_next : Follows (front ++ move_after m ∷ []) (front ++ m ∷ [])
  to_next = up_by_move front m (move_after m) [] [] (after_itself m)

  up_next : Follows (front ++ move_after m ∷ []) (front ++ x ∷ [])
  up_next = up_by_move front x (move_after m) [] [] (from_less x m (move_after m) least.from (after_itself m))

  -- where no member's word begins with it, the walk goes on after the move
  pub goes_past_barren : IsBarren n class (front ++ m ∷ []) → Advances n class (front ++ x ∷ []) (front ++ move_after m ∷ []) met
  goes_past_barren barren = record {
    up = up_next;
    on = λ cursor before p. fewer_met n class cursor (front ++ move_after m ∷ []) (before + 1) (before + met) (omega arith)
        (met_on n class (front ++ x ∷ []) (front ++ move_after m ∷ []) up_next none cursor before p (front ++ m ∷ []) pushed_tree
        pushed_some pushed_from to_next);
  }
    where
      none : (e : Entry) → IsEntry n class e → (Follows (front ++ x ∷ []) e.word → ⊥) → Follows (front ++ move_after m ∷ []) e.word → ⊥
      none e is from to = by_move (move_over n front x m (move_after m) e.word (entry_word n class e is) least from to)
        where
          by_move : IsOver front m (move_after m) e.word → ⊥
          by_move o = barren e o.rest is (o.is ∙ ap (λ z. front ++ z ∷ o.rest) same ∙ sym (append_assoc front (m ∷ []) o.rest))
            where
              same : o.other ≡ m
              same = one_legal (outline_of front) m o.other least.legal o.legal (moves_between m o.other o.from o.to).0 (moves_between m o.other o.from o.to).1

  -- a walk meets the word of the next move, which it pushes
  pub meets_pushed : Meets n class (front ++ x ∷ []) (front ++ m ∷ []) met
  meets_pushed cursor before p = fewer_at n class cursor (front ++ m ∷ []) (before + 1) (before + met) (omega arith)
      (met_at n class (front ++ x ∷ []) (front ++ m ∷ []) pushed_tree pushed_some pushed_from none cursor before p)
    where
      none : (e : Entry) → IsEntry n class e → (Follows (front ++ x ∷ []) e.word → ⊥) → Follows (front ++ m ∷ []) e.word → ⊥
      none e is from to = not_itself (front ++ m ∷ [])
          (subst (λ (w : Word). Follows (front ++ m ∷ []) w)
          (push_over n front x m e.word (entry_word n class e is) least from
          (follows_trans e.word (front ++ m ∷ []) ((front ++ m ∷ []) ++ first_move ∷ []) to to_on)) to)
