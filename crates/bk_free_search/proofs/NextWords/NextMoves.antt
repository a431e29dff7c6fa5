-- How the words that a search looks for go on from moves: by a next move, sign by sign.
use Rattle.std.proofs.Common.{List, [], ap, append-nil, append_assoc, arith, length, length-append, subst, sym}
use Rattle.std.proofs.Common.{ℕ, ◌++◌, ◌+◌, ◌<◌, ◌∙◌, ◌∷◌, ◌≡◌, ◌≤◌}
use Rattle.bk_word.specs.Outline.{IsLegalMove, start}
use Rattle.bk_word.specs.Play.{IsLegal, outline_of}
use Rattle.bk_word.specs.Word.{Move, Word, order_of}
use Rattle.bk_word.specs.declared.Sign.{Sign}
use Rattle.bk_word.proofs.PlayLaws.{legal_rest}
use Rattle.bk_word.proofs.StoredBytes.{order_append, order_more}
use Rattle.bk_layout.specs.NormalCuts.{IsNormalBarren}
use Rattle.bk_layout.specs.NormalImage.{IsNormalSought}
use Rattle.bk_free_search.specs.Sought.{GoesOn, GoesOnBy}
use Rattle.bk_free_search.specs.Unchanged.{IsUnchanged}
use Rattle.bk_free_search.specs.declared.state.Begun.{Begun}
use Rattle.bk_free_search.specs.declared.state.Search.{Search}

-- a word goes on from these moves by a legal one
pub record HasNextMove (front w : Word) : Type 0 where
  pub move : Move
  pub rest : Word
  pub is : w ≡ front ++ move ∷ rest
  pub legal : IsLegalMove (outline_of front) move

-- each move of a legal word is legal after the moves before it
pub legal_next : (front w : Word) (m : Move) (rest : Word) → IsLegal w → w ≡ front ++ m ∷ rest → IsLegalMove (outline_of front) m
legal_next front w m rest legal is = (legal_rest start front (m ∷ rest) (subst IsLegal is legal)).0

-- a sought word that begins with moves of too few squares goes on by a legal move
pub next_move : (n : ℕ) (front w : Word) → IsNormalSought n w → order_of front < n → GoesOn front w → HasNextMove front w
next_move n front w sought few on = cases on.rest on.is
  where
    cases : (rest : Word) → w ≡ front ++ rest → HasNextMove front w
    cases [] is = absurd (omega (arith, few, sought.order, ap order_of (is ∙ append-nil front)))
    cases (m ∷ rest) is = record { move = m; rest = rest; is = is; legal = legal_next front w m rest sought.complete.legal is }

-- the next move of a sought word hangs no more squares than are left
pub next_fits : (n : ℕ) (front w : Word) → IsNormalSought n w → (h : HasNextMove front w) → order_of front + h.move.count ≤ n
next_fits n front w sought h = omega (arith, sought.order, ap order_of h.is, order_append front (h.move ∷ h.rest), order_more h.move h.rest)

-- no beginning is barren, nor that with the next move
snoc : (front w : Word) (m : Move) (rest : Word) → w ≡ front ++ m ∷ rest → w ≡ (front ++ m ∷ []) ++ rest
snoc front w m rest is = is ∙ sym (append_assoc front (m ∷ []) rest)

-- the first moves of a sought word, with one move more of it, are not normal barren
pub next_fertile : (n : ℕ) (front w : Word) (m : Move) (rest : Word) → IsNormalSought n w → w ≡ front ++ m ∷ rest → IsNormalBarren n (front ++ m ∷ []) → ⊥
next_fertile n front w m rest sought is barren = sought.fertile (front ++ m ∷ []) rest (snoc front w m rest is) barren

-- ---- sign by sign

-- where all signs are there, the word goes on by the move itself
pub by_whole : (n : ℕ) (front w : Word) (m : Move) → IsNormalSought n w → IsLegalMove (outline_of front) m → GoesOnBy front m.count m.signs w
    → GoesOn (front ++ m ∷ []) w
by_whole n front w m sought legal on = record { rest = on.rest; is = snoc front w m on.rest (on.is ∙ ap (λ k. front ++ k ∷ on.rest) same) }
  where
    other : IsLegalMove (outline_of front) on.move
    other = legal_next front w on.move on.rest sought.complete.legal on.is

    none : (more : List Sign) → on.move.signs ≡ m.signs ++ more → on.move.signs ≡ m.signs
    none [] e = e ∙ append-nil m.signs
    none (s ∷ more) e = absurd (omega (arith, other.signs, legal.signs, on.count_is, ap length e, length-append m.signs (s ∷ more)))

    same : on.move ≡ m
    same = let c = on.count_is in let s = none on.more on.signs_are in λ i. record { count = c i; signs = s i }

-- the word goes on by a move of this count that has one sign more than these
pub record HasNextSign (front : Word) (count : ℕ) (signs : List Sign) (w : Word) : Type 0 where
  pub sign : Sign
  pub on : GoesOnBy front count (signs ++ sign ∷ []) w

-- a sought word that goes on by signs of no legal move yet goes on by one sign more
pub next_sign : (n : ℕ) (front w : Word) (m : Move) → IsNormalSought n w → 0 < m.count → (IsLegalMove (outline_of front) m → ⊥)
    → GoesOnBy front m.count m.signs w → HasNextSign front m.count m.signs w
next_sign n front w m sought some not on = cases on.more on.signs_are
  where
    other : IsLegalMove (outline_of front) on.move
    other = legal_next front w on.move on.rest sought.complete.legal on.is

    cases : (more : List Sign) → on.move.signs ≡ m.signs ++ more → HasNextSign front m.count m.signs w
    cases [] e = absurd (not (record { some = some; signs = omega (arith, other.signs, on.count_is, ap length (e ∙ append-nil m.signs)) }))
    cases (s ∷ more) e = record {
      sign = s;
      on = record { move = on.move; rest = on.rest; is = on.is; count_is = on.count_is; more = more; signs_are = e ∙ sym (append_assoc m.signs (s ∷ []) more) };
    }

-- ---- at the end

-- where as many squares hang as are sought, the word is whole
pub is_whole : (n : ℕ) (front w : Word) → IsNormalSought n w → order_of front ≡ n → GoesOn front w → w ≡ front
is_whole n front w sought full on = cases on.rest on.is
  where
    cases : (rest : Word) → w ≡ front ++ rest → w ≡ front
    cases [] is = is ∙ append-nil front
    cases (m ∷ rest) is = absurd (omega (
      arith,
      full,
      sought.order,
      ap order_of is,
      order_append front (m ∷ rest),
      order_more m rest,
      (legal_next front w m rest sought.complete.legal is).some,
    ))

-- each word goes on from no move
pub begins_empty : (front w : Word) → front ≡ [] → GoesOn front w
begins_empty front w none = record { rest = w; is = ap (λ v. v ++ w) (sym none) }

-- ---- where nothing has changed

-- a word that an equal search looks for is looked for
pub sought_in : {s t : Search} (w : Word) → t ≡ s → IsNormalSought s.order w → IsNormalSought t.order w
sought_in w same sought = subst (λ (x : Search). IsNormalSought x.order w) (sym same) sought

-- the words that go on so from equal moves
pub by_count : (front board w : Word) (h : HasNextMove front w) (count : ℕ) (signs : List Sign) → board ≡ front → h.move.count ≡ count → signs ≡ []
    → GoesOnBy board count signs w
by_count front board w h count signs same count_is none = record {
  move = h.move;
  rest = h.rest;
  is = h.is ∙ ap (λ v. v ++ h.move ∷ h.rest) (sym same);
  count_is = count_is;
  more = h.move.signs;
  signs_are = ap (λ l. l ++ h.move.signs) (sym none);
}

-- a word that goes on by one sign more of the move that a search has begun does so of one that is as it was
pub by_sign : {s t : Search} {a b : Begun} (sign : Sign) (w : Word) → IsUnchanged s a t b → GoesOnBy s.board a.m.count (a.m.signs ++ sign ∷ []) w
    → GoesOnBy t.board b.m.count (b.m.signs ++ sign ∷ []) w
by_sign {s = s} {b = b} sign w same on =
    subst (λ (x : Search). GoesOnBy x.board b.m.count (b.m.signs ++ sign ∷ []) w) (sym same.search)
    (subst (λ (x : Begun). GoesOnBy s.board x.m.count (x.m.signs ++ sign ∷ []) w) (sym same.begun) on)

-- the words that go on by equal counts and signs
pub by_same : {front w : Word} {count k : ℕ} {signs l : List Sign} → k ≡ count → l ≡ signs → GoesOnBy front count signs w → GoesOnBy front k l w
by_same same same_signs on = record {
  move = on.move;
  rest = on.rest;
  is = on.is;
  count_is = on.count_is ∙ sym same;
  more = on.more;
  signs_are = on.signs_are ∙ ap (λ (z : List Sign). z ++ on.more) (sym same_signs);
}
