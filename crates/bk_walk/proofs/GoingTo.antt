-- A walk goes to the word of a number: by which move, and that it comes there.
use Rattle.std.proofs.Common.{[], ap, append_assoc, arith, length, subst, sym, ℕ, ◌++◌, ◌+◌, ◌-◌, ◌<◌, ◌∙◌, ◌∷◌, ◌≡◌, ◌≤◌}
use Rattle.std.proofs.lemmas.List.{append-nil, length-append}
use Rattle.bk_word.specs.Outline.{IsLegalMove, start}
use Rattle.bk_word.specs.Play.{IsLegal, outline_of}
use Rattle.bk_word.specs.Word.{Move, Word, order_of}
use Rattle.bk_word.proofs.PlayLaws.{legal_rest}
use Rattle.bk_word.proofs.StoredBytes.{order_append, order_more, order_one}
use Rattle.bk_packed.specs.Packed.{packed}
use Rattle.bk_packed.specs.ReadMoves.{GoesOnByNumber}
use Rattle.bk_walk.specs.Leaping.{GoesToWord, IsAtNumber}
use Rattle.bk_tree_walk.specs.TreePlace.{IsKeptTreeWalk, TreeWalkState, StaysOf}
use Rattle.bk_tree_walk.proofs.StateLaws.{played_from, stays_one}

-- where fewer squares hang than the order, the word goes on by a move
pub goes_by : (n : ℕ) (front : Word) (number : ℕ) → GoesToWord n front number → order_of front < n → n ≤ 16 → GoesOnByNumber front number
goes_by n front number g few most = cases g.rest g.is
  where
    cases : (rest : Word) → g.word ≡ front ++ rest → GoesOnByNumber front number
    cases [] is = absurd (omega (arith, few, g.order, ap order_of is, ap order_of (append-nil front)))
    cases (k ∷ rest) is = record {
      next = k;
      rest = rest;
      legal = subst IsLegal is g.legal;
      few = omega (arith, sym (ap order_of is), g.order, most);
      is = ap packed (sym is) ∙ g.number_is;
    }

-- the move that is read is this one
pub record IsNextTo (n : ℕ) (front : Word) (number : ℕ) (next : Move) : Type 0 where
  pub legal : IsLegalMove (outline_of front) next
  pub few : order_of front + next.count ≤ n
  pub goes : GoesToWord n (front ++ next ∷ []) number

-- the move that is read from a word's number, with too few squares so far, leads on to that word
pub next_to : (n : ℕ) (front : Word) (number : ℕ) (next : Move) → GoesOnByNumber front number → n ≤ 16 → GoesToWord n front number → order_of front < n
    → ((k : Move) (rest : Word) → IsLegal (front ++ k ∷ rest) → order_of (front ++ k ∷ rest) ≤ 16 → packed (front ++ k ∷ rest) ≡ number → next ≡ k)
    → IsNextTo n front number next
next_to n front number next by most g few read = cases g.rest g.is
  where
    cases : (rest : Word) → g.word ≡ front ++ rest → IsNextTo n front number next
    cases [] is = absurd (omega (arith, few, g.order, ap order_of is, ap order_of (append-nil front)))
    cases (k ∷ rest) is = subst (IsNextTo n front number) (sym (read k rest legal (omega (arith, order, most)) (ap packed (sym is) ∙ g.number_is))) (record {
      legal = (legal_rest start front (k ∷ rest) legal).0;
      few = count;
      goes = record {
        word = g.word;
        rest = rest;
        is = is ∙ sym (append_assoc front (k ∷ []) rest);
        legal = g.legal;
        order = g.order;
        number_is = g.number_is;
      };
    })
      where
        legal : IsLegal (front ++ k ∷ rest)
        legal = subst IsLegal is g.legal

        order : order_of (front ++ k ∷ rest) ≡ n
        order = sym (ap order_of is) ∙ g.order

        count : order_of front + k.count ≤ n
        count = omega (arith, order, order_append front (k ∷ rest), order_more k rest)

-- a walk goes on by it, where its moves are read
module _ (n : ℕ) (t : TreeWalkState) (number : ℕ) (goes : GoesToWord n t.front number) (order : t.order ≡ n) (kept : IsKeptTreeWalk t) (read : Word)
    (same : read ≡ t.front) (few : order_of t.front < n) where
  most : n ≤ 16
  most = omega (arith, kept.most, order)

  -- a walk before the end of a word's number can go on by that number
  pub going_by : GoesOnByNumber read number
  going_by = subst (λ (w : Word). GoesOnByNumber w number) (sym same) (goes_by n t.front number goes few most)

  -- a move that each reading of the number agrees on is the one that leads to its word
  pub going_next : (m : Move) → ((k : Move) (rest : Word) → IsLegal (read ++ k ∷ rest) → order_of (read ++ k ∷ rest) ≤ 16
      → packed (read ++ k ∷ rest) ≡ number → m ≡ k) → IsNextTo n t.front number m
  going_next m by_number = next_to n t.front number m (goes_by n t.front number goes few most) most goes few
      (subst (λ (w : Word). (k : Move) (rest : Word) → IsLegal (w ++ k ∷ rest) → order_of (w ++ k ∷ rest) ≤ 16 → packed (w ++ k ∷ rest) ≡ number → m ≡ k)
      same by_number)

-- a move played to the word of a number brings a walk nearer to it, one step for one move
module _ (t u : TreeWalkState) (m : Move) (is : u ≡ played_from t m) where
  -- a move that leads on to a word leaves fewer squares to come
  pub played_nearer : (n number : ℕ) → t.order ≡ n → IsNextTo n t.front number m → u.order - order_of u.front < t.order - order_of t.front
  played_nearer n number order next =
      omega (arith, ap (λ (s : TreeWalkState). s.order - order_of s.front) is, order_one t.front m, (next.legal).some, next.few, order)

  -- after a move that leads on to a word the walk still goes to that word
  pub played_goes : (n number : ℕ) → IsNextTo n t.front number m → GoesToWord n u.front number
  played_goes n number next = subst (λ (s : TreeWalkState). GoesToWord n s.front number) (sym is) next.goes

  -- one move played is one step counted for one move of the word
  pub played_each : (before first steps then : ℕ) → steps + first ≡ before + length t.front → then ≡ steps + 1 → then + first ≡ before + length u.front
  played_each before first steps then each one =
      omega (arith, each, one, ap (λ (s : TreeWalkState). length s.front) is, length-append t.front (m ∷ []))

  -- a move played to a word counts as one push and keeps the walk's order and class
  pub played_stays : (steps then : ℕ) → then ≡ steps + 1 → StaysOf t u steps then
  played_stays steps then one = stays_one t u steps then (ap (λ (s : TreeWalkState). s.order) is) (ap (λ (s : TreeWalkState). s.class) is)
      (ap (λ (s : TreeWalkState). s.pushes) is) one

-- where as many squares hang, it is there
pub is_there : (n : ℕ) (front : Word) (number : ℕ) → GoesToWord n front number → n ≤ order_of front → IsAtNumber n front number
is_there n front number g many = cases g.rest g.is
  where
    cases : (rest : Word) → g.word ≡ front ++ rest → IsAtNumber n front number
    cases [] is = subst (λ (w : Word). IsAtNumber n w number) (is ∙ append-nil front) (record { legal = g.legal; order = g.order; number_is = g.number_is })
    cases (k ∷ rest) is = absurd (omega (
      arith,
      many,
      g.order,
      ap order_of is,
      order_append front (k ∷ rest),
      order_more k rest,
      ((legal_rest start front (k ∷ rest) (subst IsLegal is g.legal)).0).some,
    ))
