-- From one place of the tree to the next: which words lie between.
use Rattle.std.specs.Ordering.{ordering_then}
use Rattle.std.specs.declared.cmp.Ordering.{Ordering}
use Rattle.std.specs.declared.cmp.Ordering.TheVariants.{Equal, Greater, Less}
use Rattle.std.proofs.Common.{[], ap, append_assoc, arith, refl, subst, sym, ℕ, ◌++◌, ◌+◌, ◌∙◌, ◌∷◌, ◌≡◌, ◌≤◌}
use Rattle.bk_laws.proofs.Orderings.{greater-is_not_less}
use Rattle.bk_word.specs.Outline.{IsLegalMove, start}
use Rattle.bk_word.specs.Play.{IsLegal, after_moves, outline_of}
use Rattle.bk_word.specs.Word.{Follows, Move, Word, move_cmp, order_of, word_cmp}
use Rattle.bk_word.proofs.StoredBytes.{order_append, order_more}
use Rattle.bk_catalogue.proofs.TreeOfWords.MoveOrder.{Begins, moves_between}
use Rattle.bk_catalogue.proofs.TreeOfWords.Places.{IsLast, LiesBetween, before_first, before_one, lies_between, not_before_first, one_legal}
use Rattle.bk_word.proofs.PlayLaws.{legal_rest}
use Rattle.bk_word.proofs.WordOrder.{move_itself, move_same}
use Rattle.bk_catalogue.specs.NextMove.{IsLeastFrom, IsMoveFrom, first_move, move_after}
use Rattle.bk_tree_walk.specs.TreePlace.{IsTreeWord}

-- a word that goes on from these moves by a legal move
pub record GoesOn (front : Word) (m : Move) (w : Word) : Type 0 where
  pub rest : Word
  pub is : w ≡ front ++ m ∷ rest
  pub legal : IsLegalMove (outline_of front) m

goes_on : (n : ℕ) (front : Word) (m : Move) (rest w : Word) → IsTreeWord n w → w ≡ front ++ m ∷ rest → IsLegalMove (outline_of front) m
goes_on n front m rest w tree e = (legal_rest start front (m ∷ rest) (subst IsLegal e tree.legal)).0

few_from : (n : ℕ) (front : Word) (m : Move) (rest w : Word) → IsTreeWord n w → w ≡ front ++ m ∷ rest → order_of front + m.count ≤ n
few_from n front m rest w tree e = omega (arith, tree.small, ap order_of e, order_append front (m ∷ rest), order_more m rest)

-- where no legal move is left, no word of the tree that begins with these moves is left
last_over : (n : ℕ) (front : Word) (x : Move) (w rest : Word) → IsTreeWord n w → IsLast n front x → w ≡ front ++ rest → (word_cmp rest (x ∷ []) ≡ Less → ⊥) → ⊥
last_over n front x w [] tree last e from = from refl
last_over n front x w (m ∷ rest) tree last e from =
    last m (goes_on n front m rest w tree e) (not_before_first m x rest [] from) (few_from n front m rest w tree e)

-- if no move is played and no legal one is left, no word of the tree begins with what is left
pub end_over : (n : ℕ) (x : Move) (w : Word) → IsTreeWord n w → IsLast n [] x → (Follows (x ∷ []) w → ⊥) → ⊥
end_over n x w tree last from = last_over n [] x w w tree last refl from

-- where no legal move is left, no word of the tree lies before the move that comes after the last one
pub climb_over : (n : ℕ) (front : Word) (l x : Move) (w : Word) → IsTreeWord n w → IsLegalMove (outline_of front) l → IsLast n (front ++ l ∷ []) x
    → (Follows ((front ++ l ∷ []) ++ x ∷ []) w → ⊥) → Follows (front ++ move_after l ∷ []) w → ⊥
climb_over n front l x w tree legal last from to =
    cases (lies_between front (l ∷ x ∷ []) (move_after l ∷ []) w (λ e. from (ap (word_cmp w) (append_assoc front (l ∷ []) (x ∷ [])) ∙ e)) to)
  where
    by_rest : (rest : Word) → w ≡ front ++ rest → (word_cmp rest (l ∷ x ∷ []) ≡ Less → ⊥) → word_cmp rest (move_after l ∷ []) ≡ Less → ⊥
    by_rest [] e f t = f refl
    by_rest (m ∷ rest) e f t = last_over n (front ++ l ∷ []) x w rest tree last (e ∙ ap (λ z. front ++ z ∷ rest) same ∙ sym (append_assoc front (l ∷ []) rest))
        (λ k. f (ap (λ z. word_cmp (z ∷ rest) (l ∷ x ∷ [])) same ∙ ap (λ z. ordering_then z (word_cmp rest (x ∷ []))) (move_itself l) ∙ k))
      where
        found : (m.count ≡ l.count) × Begins l.signs m.signs
        found = moves_between l m (not_before_first m l rest (x ∷ []) f) (before_one m (move_after l) rest t)

        same : m ≡ l
        same = one_legal (outline_of front) l m legal (goes_on n front m rest w tree e) found.0 found.1

    cases : LiesBetween front (l ∷ x ∷ []) (move_after l ∷ []) w → ⊥
    cases b = by_rest b.rest b.is b.from b.to

-- between the place of the least legal move and a later one at the same state
pub record IsOver (front : Word) (m next : Move) (w : Word) : Type 0 where
  pub other : Move
  pub rest : Word
  pub is : w ≡ front ++ other ∷ rest
  pub legal : IsLegalMove (outline_of front) other
  pub from : IsMoveFrom m other
  pub to : move_cmp other next ≡ Less

-- a word of the tree from the least legal move on and before a later one goes on by a legal move between
pub move_over : (n : ℕ) (front : Word) (x m next : Move) (w : Word) → IsTreeWord n w → IsLeastFrom (outline_of front) x m
    → (Follows (front ++ x ∷ []) w → ⊥) → Follows (front ++ next ∷ []) w → IsOver front m next w
move_over n front x m next w tree least from to = cases (lies_between front (x ∷ []) (next ∷ []) w from to)
  where
    by_rest : (rest : Word) → w ≡ front ++ rest → (word_cmp rest (x ∷ []) ≡ Less → ⊥) → word_cmp rest (next ∷ []) ≡ Less → IsOver front m next w
    by_rest [] e f t = absurd (f refl)
    by_rest (k ∷ rest) e f t = record {
      other = k;
      rest = rest;
      is = e;
      legal = goes_on n front k rest w tree e;
      from = least.least k (goes_on n front k rest w tree e) (not_before_first k x rest [] f);
      to = before_one k next rest t;
    }

    cases : LiesBetween front (x ∷ []) (next ∷ []) w → IsOver front m next w
    cases b = by_rest b.rest b.is b.from b.to

-- up to what begins with the least legal move, only the word that ends with it is met
pub push_over : (n : ℕ) (front : Word) (x m : Move) (w : Word) → IsTreeWord n w → IsLeastFrom (outline_of front) x m
    → (Follows (front ++ x ∷ []) w → ⊥) → Follows ((front ++ m ∷ []) ++ first_move ∷ []) w → w ≡ front ++ m ∷ []
push_over n front x m w tree least from to =
    cases (lies_between front (x ∷ []) (m ∷ first_move ∷ []) w from (sym (ap (word_cmp w) (append_assoc front (m ∷ []) (first_move ∷ []))) ∙ to))
  where
    by_rest : (rest : Word) → w ≡ front ++ rest → (word_cmp rest (x ∷ []) ≡ Less → ⊥) → word_cmp rest (m ∷ first_move ∷ []) ≡ Less → w ≡ front ++ m ∷ []
    by_rest [] e f t = absurd (f refl)
    by_rest (k ∷ rest) e f t = by_order (move_cmp k m) refl
      where
        by_order : (r : Ordering) → move_cmp k m ≡ r → w ≡ front ++ m ∷ []
        by_order Less g = absurd (least.least k (goes_on n front k rest w tree e) (not_before_first k x rest [] f) g)
        by_order Greater g = absurd (greater-is_not_less (sym (ap (λ z. ordering_then z (word_cmp rest (first_move ∷ []))) g) ∙ t))
        by_order Equal g = e ∙ ap (λ z. front ++ z ∷ rest) (move_same k m g) ∙ ap (λ z. front ++ m ∷ z) none
          where
            none : rest ≡ []
            none = before_first (after_moves (outline_of front) (k ∷ [])) rest
                (legal_rest start front (k ∷ rest) (subst IsLegal e tree.legal)).1 (sym (ap (λ z. ordering_then z (word_cmp rest (first_move ∷ []))) g) ∙ t)

    cases : LiesBetween front (x ∷ []) (m ∷ first_move ∷ []) w → w ≡ front ++ m ∷ []
    cases b = by_rest b.rest b.is b.from b.to
