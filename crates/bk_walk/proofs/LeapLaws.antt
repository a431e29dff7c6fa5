-- A leap: the walk goes from a place to the least word of a member that isn't before it, and the words that it pushes on the way are met.
use Rattle.std.specs.declared.cmp.Ordering.{Ordering}
use Rattle.std.specs.declared.cmp.Ordering.TheVariants.{Equal, Greater, Less}
use Rattle.std.specs.Ordering.{ordering_then}
use Rattle.std.proofs.Common.{[], ap, append_assoc, arith, drop, inl, inr, length, refl, subst, sym, take, ℕ, ◌++◌, ◌+◌, ◌<◌, ◌∙◌, ◌∷◌}
use Rattle.std.proofs.Common.{◌≡◌, ◌≤◌, ◌⊎◌}
use Rattle.std.proofs.lemmas.List.{append-nil, length-append, length-take-le, take-append-drop, take_all, take_at}
use Rattle.bk_laws.proofs.Orderings.{greater-is_not_less}
use Rattle.bk_word.specs.Outline.{start}
use Rattle.bk_word.specs.Play.{IsLegal, outline_of}
use Rattle.bk_word.specs.Word.{Follows, Move, Word, move_cmp, order_of, word_cmp}
use Rattle.bk_word.specs.declared.Class.{Class}
use Rattle.bk_word.proofs.PlayLaws.{legal_front, legal_rest}
use Rattle.bk_word.proofs.StoredBytes.{order_append, order_more}
use Rattle.bk_word.proofs.WordOrder.{follows_trans, move_same}
use Rattle.bk_catalogue.specs.Catalogue.{Entry, IsEntry}
use Rattle.bk_packed.specs.ReadMoves.{IsSharedFront}
use Rattle.bk_catalogue.proofs.TreeOfWords.Places.{before_first, before_one, front_cmp, not_before_first}
use Rattle.bk_catalogue.specs.NextMove.{first_move}
use Rattle.bk_laws.proofs.NumberOrder.{le_or_ge}
use Rattle.bk_tree_walk.proofs.Advancing.{before_not_before, before_or, met_at, met_on}
use Rattle.bk_tree_walk.proofs.WalkSteps.{fewer_at}
use Rattle.bk_tree_walk.specs.TreePlace.{HasPassed, IsMet, IsTreeWord, Meets}

-- a word that begins with another and goes on is behind it
goes_behind : (w : Word) → Follows (w ++ first_move ∷ []) w
goes_behind w = ap (λ (v : Word). word_cmp v (w ++ first_move ∷ [])) (sym (append-nil w)) ∙ front_cmp w [] (first_move ∷ [])

-- what is behind a word that isn't before another is behind that one
not_before_then : (u v w : Word) → (Follows v u → ⊥) → Follows w u → Follows w v
not_before_then u v w from up = cases (before_or v w)
  where
    cases : Follows w v ⊎ (Follows w v → ⊥) → Follows w v
    cases (inl f) = f
    cases (inr not) = absurd (from (before_not_before u w v up not))

-- so many first moves are as many, or all
long_take : (i : ℕ) (w : Word) → (length (take i w) ≡ i) ⊎ (length (take i w) ≡ length w)
long_take i w = cases (le_or_ge i (length w))
  where
    cases : (i ≤ length w) ⊎ (length w ≤ i) → (length (take i w) ≡ i) ⊎ (length (take i w) ≡ length w)
    cases (inl h) = inl (length-take-le i w h)
    cases (inr h) = inr (ap length (take_all i w h))

-- the words of the tree on the way to a word, from where it goes on from one by a move
module _ (n : ℕ) (class : Class) (word : Word) (tree : IsTreeWord n word) where
  -- none of a member's lies between a place and the word
  pub record HasNoneUpTo (place : Word) : Type 0 where
    pub none : (e : Entry) → IsEntry n class e → (Follows place e.word → ⊥) → Follows word e.word → ⊥

  on_the_way : (front : Word) (k : Move) (rest : Word) → word ≡ front ++ k ∷ rest → IsTreeWord n (front ++ k ∷ [])
  on_the_way front k rest is = record {
    legal = legal_front start (front ++ k ∷ []) rest (subst IsLegal (is ∙ sym (append_assoc front (k ∷ []) rest)) tree.legal);
    small = omega (arith, tree.small, ap order_of is, order_append front (k ∷ rest), order_append front (k ∷ []), order_more k rest, order_more k []);
  }

  some_moves : (front : Word) (k : Move) → 0 < length (front ++ k ∷ [])
  some_moves front k = omega (arith, length-append front (k ∷ []))

  -- a legal word that goes on from another isn't before what begins with that one and the first move
  none_before_first : (front : Word) (k : Move) (rest : Word) → IsLegal (front ++ k ∷ rest) → Follows (front ++ first_move ∷ []) (front ++ k ∷ rest) → ⊥
  none_before_first front k rest legal f = some (before_first (outline_of front) (k ∷ rest) (legal_rest start front (k ∷ rest) legal)
      (sym (front_cmp front (k ∷ rest) (first_move ∷ [])) ∙ f))
    where
      some : k ∷ rest ≡ [] → ⊥
      some e = cc

  -- so each of them is met, and the word as the last
  meets_all : (front : Word) (k : Move) (rest place : Word) → word ≡ front ++ k ∷ rest → (Follows place (front ++ k ∷ []) → ⊥) → HasNoneUpTo place
      → (cursor : Word) (met : ℕ) → HasPassed n class cursor place met → IsMet n class cursor word (met + length (k ∷ rest))
  meets_all front k [] place is from none cursor met p = met_at n class place word tree
      (subst (λ (w : Word). 0 < length w) (sym is) (some_moves front k)) (λ f. from (subst (λ (w : Word). Follows place w) is f)) none.none cursor met p
  meets_all front k (l ∷ rest) place is from none cursor met p = subst (IsMet n class cursor word) many
      (meets_all (front ++ k ∷ []) l rest ((front ++ k ∷ []) ++ first_move ∷ []) goes_on
      (none_before_first (front ++ k ∷ []) l [] (on_the_way (front ++ k ∷ []) l rest goes_on).legal)
      (record {
        none = λ e is_entry after before. none.none e is_entry
            (λ f. after (follows_trans e.word place ((front ++ k ∷ []) ++ first_move ∷ []) f up)) before;
      })
      cursor (met + 1)
      (met_on n class place ((front ++ k ∷ []) ++ first_move ∷ []) up none_between cursor met p (front ++ k ∷ []) (on_the_way front k (l ∷ rest) is)
      (some_moves front k) from to))
    where
      goes_on : word ≡ (front ++ k ∷ []) ++ l ∷ rest
      goes_on = is ∙ sym (append_assoc front (k ∷ []) (l ∷ rest))

      many : met + 1 + length (l ∷ rest) ≡ met + length (k ∷ l ∷ rest)
      many = omega arith

      to : Follows ((front ++ k ∷ []) ++ first_move ∷ []) (front ++ k ∷ [])
      to = goes_behind (front ++ k ∷ [])

      up : Follows ((front ++ k ∷ []) ++ first_move ∷ []) place
      up = not_before_then (front ++ k ∷ []) place ((front ++ k ∷ []) ++ first_move ∷ []) from to

      none_between : (e : Entry) → IsEntry n class e → (Follows place e.word → ⊥) → Follows ((front ++ k ∷ []) ++ first_move ∷ []) e.word → ⊥
      none_between e is_entry after before = none.none e is_entry after (before_not_before e.word ((front ++ k ∷ []) ++ first_move ∷ []) word before
          (λ f. none_before_first (front ++ k ∷ []) l rest (subst IsLegal goes_on tree.legal)
          (subst (λ (w : Word). Follows ((front ++ k ∷ []) ++ first_move ∷ []) w) goes_on f)))

  -- a place at moves, and a word with some of them and then others: what it goes on by isn't before the place
  module _ (front : Word) (x : Move) (moves : ℕ) (s : IsSharedFront front word moves) (from : Follows (front ++ x ∷ []) word → ⊥) where
    first_from : (k : Move) (rest behind : Word) → word ≡ take moves front ++ k ∷ rest → front ≡ take moves front ++ behind
        → Follows (front ++ x ∷ []) (take moves front ++ k ∷ []) → ⊥
    first_from k rest [] is parts f =
        not_before_first k x rest [] (λ g. from (ap (λ (v : Word). word_cmp word (v ++ x ∷ [])) same
        ∙ ap (λ (v : Word). word_cmp v (take moves front ++ x ∷ [])) is ∙ front_cmp (take moves front) (k ∷ rest) (x ∷ []) ∙ g))
        (before_one k x [] (sym (front_cmp (take moves front) (k ∷ []) (x ∷ []))
        ∙ sym (ap (λ (v : Word). word_cmp (take moves front ++ k ∷ []) (v ++ x ∷ [])) same) ∙ f))
      where
        same : front ≡ take moves front
        same = parts ∙ append-nil (take moves front)
    first_from k rest (l ∷ behind) is parts f = cases (move_cmp k l) refl
      where
        place : front ++ x ∷ [] ≡ take moves front ++ l ∷ (behind ++ x ∷ [])
        place = ap (λ (v : Word). v ++ x ∷ []) parts ∙ append_assoc (take moves front) (l ∷ behind) (x ∷ [])

        before : word_cmp (k ∷ []) (l ∷ (behind ++ x ∷ [])) ≡ Less
        before = sym (front_cmp (take moves front) (k ∷ []) (l ∷ (behind ++ x ∷ []))) ∙ sym (ap (word_cmp (take moves front ++ k ∷ [])) place) ∙ f

        not_before : word_cmp (k ∷ rest) (l ∷ (behind ++ x ∷ [])) ≡ Less → ⊥
        not_before g = from (ap (word_cmp word) place ∙ ap (λ (v : Word). word_cmp v (take moves front ++ l ∷ (behind ++ x ∷ []))) is
            ∙ front_cmp (take moves front) (k ∷ rest) (l ∷ (behind ++ x ∷ [])) ∙ g)

        long : length (take moves front) + length (l ∷ behind) ≡ length front
        long = sym (ap length parts ∙ length-append (take moves front) (l ∷ behind))

        many : moves ≡ length (take moves front)
        many = which (long_take moves front)
          where
            which : (length (take moves front) ≡ moves) ⊎ (length (take moves front) ≡ length front) → moves ≡ length (take moves front)
            which (inl e) = sym e
            which (inr e) = absurd (omega (arith, e, long))

        one_more : take (moves + 1) front ≡ take moves front ++ l ∷ []
        one_more = ap (take (moves + 1)) (parts ∙ sym (append_assoc (take moves front) (l ∷ []) behind))
            ∙ take_at (take moves front ++ l ∷ []) behind (moves + 1) (omega (arith, many, length-append (take moves front) (l ∷ [])))

        cases : (r : Ordering) → move_cmp k l ≡ r → ⊥
        cases Less e = not_before (ap (λ z. ordering_then z (word_cmp rest (behind ++ x ∷ []))) e)
        cases Greater e = greater-is_not_less (sym (ap (λ z. ordering_then z (word_cmp [] (behind ++ x ∷ []))) e) ∙ before)
        cases Equal e = s.most (omega (arith, many, long)) rest (is ∙ ap (λ (m : Move). take moves front ++ m ∷ rest) (move_same k l e)
            ∙ sym (append_assoc (take moves front) (l ∷ []) rest) ∙ sym (ap (λ (v : Word). v ++ rest) one_more))

    -- a walk that leaps to a word meets it, and each word on the way
    pub leap_meets : HasNoneUpTo (front ++ x ∷ []) → moves ≤ length front → order_of front < order_of word → (met : ℕ) → met + moves ≤ length word
        → Meets n class (front ++ x ∷ []) word met
    leap_meets none within longer met count = cases s.rest s.is
      where
        parts : front ≡ take moves front ++ drop moves front
        parts = sym (take-append-drop moves front)

        cases : (rest : Word) → word ≡ take moves front ++ rest → Meets n class (front ++ x ∷ []) word met
        cases [] is = λ cursor before p. absurd (omega (
          arith,
          longer,
          ap order_of is,
          ap order_of (append-nil (take moves front)),
          ap order_of parts,
          order_append (take moves front) (drop moves front),
        ))
        cases (k ∷ rest) is = λ cursor before p. fewer_at n class cursor word (before + length (k ∷ rest)) (before + met)
            (omega (arith, count, ap length is, length-append (take moves front) (k ∷ rest), length-take-le moves front within))
            (meets_all (take moves front) k rest (front ++ x ∷ []) is (first_from k rest (drop moves front) is parts) none cursor before p)
