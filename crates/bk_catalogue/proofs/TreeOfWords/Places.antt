-- Words between one place of the tree and the next. A place is a word: what is before it is passed.
use Rattle.std.specs.Ordering.{ordering_then}
use Rattle.std.specs.declared.cmp.Ordering.{Ordering}
use Rattle.std.specs.declared.cmp.Ordering.TheVariants.{Equal, Greater, Less}
use Rattle.std.proofs.Common.{List, [], ap, arith, inl, inr, length, refl, sym, ℕ, ◌++◌, ◌+◌, ◌∙◌, ◌∷◌, ◌≡◌, ◌≤◌}
use Rattle.std.proofs.lemmas.List.{append-nil, length-append}
use Rattle.bk_laws.proofs.Orderings.{greater-is_not_less}
use Rattle.bk_word.specs.Outline.{IsLegalMove, Outline}
use Rattle.bk_word.specs.Play.{AreLegalFrom, outline_of}
use Rattle.bk_word.specs.Word.{Move, Word, move_cmp, order_of, word_cmp}
use Rattle.bk_word.specs.declared.Sign.{Sign}
use Rattle.bk_word.proofs.WordOrder.{move_itself, move_same}
use Rattle.bk_catalogue.proofs.TreeOfWords.MoveOrder.{Begins, IsLess, less_to, none_below}
use Rattle.bk_catalogue.specs.NextMove.{IsMoveFrom, first_move}

-- moves of one count and equal signs are equal
pub move_from_parts : (m n : Move) → m.count ≡ n.count → m.signs ≡ n.signs → m ≡ n
move_from_parts m n e f = λ i. record { count = e i; signs = f i }

-- words that compare as equal are equal
pub word_same : (v w : Word) → word_cmp v w ≡ Equal → v ≡ w
word_same [] [] e = refl
word_same [] (n ∷ w) e = absurd (cc)
word_same (m ∷ v) [] e = absurd (cc)
word_same (m ∷ v) (n ∷ w) e = cases (move_cmp m n) refl (λ k. word_same v w k)
  where
    less : Less ≡ Equal → ⊥
    less k = cc

    more : Greater ≡ Equal → ⊥
    more k = cc

    cases : (r : Ordering) → move_cmp m n ≡ r → (word_cmp v w ≡ Equal → v ≡ w) → m ∷ v ≡ n ∷ w
    cases Less f g = absurd (less (sym (ap (λ z. ordering_then z (word_cmp v w)) f) ∙ e))
    cases Greater f g = absurd (more (sym (ap (λ z. ordering_then z (word_cmp v w)) f) ∙ e))
    cases Equal f g = ap (λ z. z ∷ v) (move_same m n f) ∙ ap (λ z. n ∷ z) (g (sym (ap (λ z. ordering_then z (word_cmp v w)) f) ∙ e))

-- equal first moves don't matter to the order of words
pub front_cmp : (front u v : Word) → word_cmp (front ++ u) (front ++ v) ≡ word_cmp u v
front_cmp [] u v = refl
front_cmp (m ∷ front) u v = ap (λ z. ordering_then z (word_cmp (front ++ u) (front ++ v))) (move_itself m) ∙ front_cmp front u v

-- a word that is not before front ++ u, and is before front ++ v
pub record LiesBetween (front u v w : Word) : Type 0 where
  pub rest : Word
  pub is : w ≡ front ++ rest
  pub from : word_cmp rest u ≡ Less → ⊥
  pub to : word_cmp rest v ≡ Less

-- a word that lies between two with one front has this front
pub lies_between : (front u v w : Word) → (word_cmp w (front ++ u) ≡ Less → ⊥) → word_cmp w (front ++ v) ≡ Less → LiesBetween front u v w
lies_between [] u v w from to = record { rest = w; is = refl; from = from; to = to }
lies_between (m ∷ front) u v [] from to = absurd (from refl)
lies_between (m ∷ front) u v (n ∷ w) from to = cases (move_cmp n m) refl (λ f t. lies_between front u v w f t)
  where
    cases : (r : Ordering) → move_cmp n m ≡ r
        → ((word_cmp w (front ++ u) ≡ Less → ⊥) → word_cmp w (front ++ v) ≡ Less → LiesBetween front u v w) → LiesBetween (m ∷ front) u v (n ∷ w)
    cases Less e f = absurd (from (ap (λ z. ordering_then z (word_cmp w (front ++ u))) e))
    cases Greater e f = absurd (greater-is_not_less (sym (ap (λ z. ordering_then z (word_cmp w (front ++ v))) e) ∙ to))
    cases Equal e f = onto (f (λ k. from (ap (λ z. ordering_then z (word_cmp w (front ++ u))) e ∙ k))
        (sym (ap (λ z. ordering_then z (word_cmp w (front ++ v))) e) ∙ to))
      where
        onto : LiesBetween front u v w → LiesBetween (m ∷ front) u v (n ∷ w)
        onto b = record { rest = b.rest; is = ap (λ z. z ∷ w) (move_same n m e) ∙ ap (λ l. m ∷ l) b.is; from = b.from; to = b.to }

-- what begins a word that is not before one move, or is before one
pub not_before_first : (m x : Move) (rest more : Word) → (word_cmp (m ∷ rest) (x ∷ more) ≡ Less → ⊥) → IsMoveFrom x m
not_before_first m x rest more f e = f (ap (λ z. ordering_then z (word_cmp rest more)) e)

-- no word comes before the empty one
pub not_before_none : (rest : Word) → word_cmp rest [] ≡ Less → ⊥
not_before_none [] e = cc
not_before_none (m ∷ rest) e = cc

-- what is before a word of one move begins with a lesser move
pub before_one : (m x : Move) (rest : Word) → word_cmp (m ∷ rest) (x ∷ []) ≡ Less → move_cmp m x ≡ Less
before_one m x rest e = cases (move_cmp m x) refl
  where
    cases : (r : Ordering) → move_cmp m x ≡ r → move_cmp m x ≡ Less
    cases Less f = f
    cases Equal f = absurd (not_before_none rest (sym (ap (λ z. ordering_then z (word_cmp rest [])) f) ∙ e))
    cases Greater f = absurd (greater-is_not_less (sym (ap (λ z. ordering_then z (word_cmp rest [])) f) ∙ e))

-- no legal word is before the first move
pub before_first : (o : Outline) (w : Word) → AreLegalFrom o w → word_cmp w (first_move ∷ []) ≡ Less → w ≡ []
before_first o [] l e = refl
before_first o (m ∷ w) l e = absurd (cases (less_to m first_move (before_one m first_move w e)))
  where
    cases : IsLess m first_move → ⊥
    cases (inl h) = let s = (l.0).some in omega arith
    cases (inr (h, f)) = none_below m.signs f

-- two legal moves at one state of which one begins with the other's signs are one
pub one_legal : (o : Outline) (m n : Move) → IsLegalMove o m → IsLegalMove o n → n.count ≡ m.count → Begins m.signs n.signs → n ≡ m
one_legal o m n l k e b = move_from_parts n m e (cases b.rest b.is)
  where
    cases : (rest : List Sign) → n.signs ≡ m.signs ++ rest → n.signs ≡ m.signs
    cases [] f = f ∙ append-nil m.signs
    cases (s ∷ rest) f = absurd (omega (arith, l.signs, k.signs, ap length f, length-append m.signs (s ∷ rest)))

-- no legal move is left that is not before x
abbrev pub IsLast : ℕ → Word → Move → Type 0
IsLast n front x = (m : Move) → IsLegalMove (outline_of front) m → IsMoveFrom x m → order_of front + m.count ≤ n → ⊥
