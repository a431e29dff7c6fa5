-- Where a walk begins: after the longest front of the cursor that is a word of the tree.
use Rattle.std.specs.declared.cmp.Ordering.{Ordering}
use Rattle.std.specs.declared.cmp.Ordering.TheVariants.{Equal, Greater, Less}
use Rattle.std.specs.Ordering.{ordering_reverse, ordering_then}
use Rattle.std.proofs.Common.{[], ap, append-nil, arith, refl, subst, sym, ℕ, ◌++◌, ◌+◌, ◌∙◌, ◌∷◌, ◌≡◌, ◌≤◌}
use Rattle.bk_laws.proofs.Orderings.{greater-is_not_less}
use Rattle.bk_word.proofs.WordOrder.{follows_trans, word_total, move_itself, move_same}
use Rattle.bk_word.specs.Outline.{IsLegalMove, start}
use Rattle.bk_word.specs.Play.{IsLegal, outline_of}
use Rattle.bk_word.specs.Word.{Follows, Move, Word, move_cmp, order_of, word_cmp}
use Rattle.bk_word.specs.declared.Class.{Class}
use Rattle.bk_word.proofs.StoredBytes.{order_append, order_more}
use Rattle.bk_tree_walk.proofs.Advancing.{before_not_before, entry_word, words_follow_one_way_only}
use Rattle.bk_catalogue.proofs.TreeOfWords.Places.{LiesBetween, before_first, front_cmp, lies_between, not_before_first, word_same}
use Rattle.bk_word.proofs.PlayLaws.{legal_rest}
use Rattle.bk_word.proofs.FollowLaws.{not_itself}
use Rattle.bk_catalogue.specs.NextMove.{first_move}
use Rattle.bk_tree_walk.specs.TreePlace.{HasPassed, IsTreeWord}

-- a place before which nothing was met
begins_at : (n : ℕ) (class : Class) (cursor place : Word) → ((w : Word) → IsTreeWord n w → Follows w cursor → Follows place w → ⊥)
    → ((w : Word) → IsTreeWord n w → (Follows place w → ⊥) → Follows w cursor) → HasPassed n class cursor place 0
begins_at n class cursor place none after = record {
  passed = λ e is. none e.word (entry_word n class e is);
  after = after;
  words = [];
  each = tt;
  ascending = tt;
  count = omega arith;
}

-- where all of the cursor is played, the walk begins with what begins with it
pub none_passed_at_what_begins_with_the_cursor : (n : ℕ) (class : Class) (cursor : Word) → HasPassed n class cursor (cursor ++ first_move ∷ []) 0
none_passed_at_what_begins_with_the_cursor n class cursor = begins_at n class cursor (cursor ++ first_move ∷ []) none
    (λ w tree from. before_not_before cursor (cursor ++ first_move ∷ []) w up from)
  where
    up : Follows (cursor ++ first_move ∷ []) cursor
    up = ap (λ z. word_cmp z (cursor ++ first_move ∷ [])) (sym (append-nil cursor)) ∙ front_cmp cursor [] (first_move ∷ [])

    none : (w : Word) → IsTreeWord n w → Follows w cursor → Follows (cursor ++ first_move ∷ []) w → ⊥
    none w tree after before = cases (lies_between cursor [] (first_move ∷ []) w
        (λ f. words_follow_one_way_only cursor w (sym (ap (word_cmp w) (append-nil cursor)) ∙ f) after) before)
      where
        cases : LiesBetween cursor [] (first_move ∷ []) w → ⊥
        cases b = not_itself cursor (subst (λ (v : Word). Follows v cursor) same after)
          where
            same : w ≡ cursor
            same = b.is ∙ ap (λ z. cursor ++ z) (before_first (outline_of cursor) b.rest
                (legal_rest start cursor b.rest (subst IsLegal b.is tree.legal)) b.to) ∙ append-nil cursor

-- where a move of the cursor is not legal or hangs too many squares, it begins at this move
pub begins_beside : (n : ℕ) (class : Class) (front : Word) (x : Move) (rest : Word) → (IsLegalMove (outline_of front) x → order_of front + x.count ≤ n → ⊥)
    → HasPassed n class (front ++ x ∷ rest) (front ++ x ∷ []) 0
begins_beside n class front x rest not = begins_at n class (front ++ x ∷ rest) (front ++ x ∷ []) (none rest) after
  where
    none : (rest : Word) (w : Word) → IsTreeWord n w → Follows w (front ++ x ∷ rest) → Follows (front ++ x ∷ []) w → ⊥
    none [] w tree after before = words_follow_one_way_only (front ++ x ∷ []) w before after
    none (y ∷ rest) w tree after before = words_follow_one_way_only (front ++ x ∷ y ∷ rest) w
        (follows_trans w (front ++ x ∷ []) (front ++ x ∷ y ∷ rest) before up) after
      where
        up : Follows (front ++ x ∷ y ∷ rest) (front ++ x ∷ [])
        up = front_cmp front (x ∷ []) (x ∷ y ∷ rest) ∙ ap (λ z. ordering_then z (word_cmp [] (y ∷ rest))) (move_itself x)

    never : (w more : Word) → IsTreeWord n w → w ≡ front ++ x ∷ more → ⊥
    never w more tree e = not ((legal_rest start front (x ∷ more) (subst IsLegal e tree.legal)).0)
        (omega (arith, tree.small, ap order_of e, order_append front (x ∷ more), order_more x more))

    after : (w : Word) → IsTreeWord n w → (Follows (front ++ x ∷ []) w → ⊥) → Follows w (front ++ x ∷ rest)
    after w tree from = cases (word_cmp w (front ++ x ∷ rest)) refl
      where
        by_rest : (more : Word) → w ≡ front ++ more → (word_cmp more (x ∷ []) ≡ Less → ⊥) → word_cmp more (x ∷ rest) ≡ Less → ⊥
        by_rest [] e f t = f refl
        by_rest (m ∷ more) e f t = by_order (move_cmp m x) refl
          where
            by_order : (r : Ordering) → move_cmp m x ≡ r → ⊥
            by_order Less g = not_before_first m x more [] f g
            by_order Greater g = greater-is_not_less (sym (ap (λ z. ordering_then z (word_cmp more rest)) g) ∙ t)
            by_order Equal g = never w more tree (e ∙ ap (λ z. front ++ z ∷ more) (move_same m x g))

        between : LiesBetween front (x ∷ []) (x ∷ rest) w → ⊥
        between b = by_rest b.rest b.is b.from b.to

        cases : (r : Ordering) → word_cmp w (front ++ x ∷ rest) ≡ r → Follows w (front ++ x ∷ rest)
        cases Less e = absurd (between (lies_between front (x ∷ []) (x ∷ rest) w from e))
        cases Equal e = absurd (never w rest tree (word_same w (front ++ x ∷ rest) e))
        cases Greater e = word_total.antisymm (front ++ x ∷ rest) w ∙ ap ordering_reverse e
