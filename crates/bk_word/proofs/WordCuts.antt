-- A word cut at a move: the moves from it on, what is open after it, and that it is legal there.
use Rattle.std.proofs.Common.{Some, [], ap, arith, drop, slice_get, subst, suc, take, zero, ℕ, ◌+◌, ◌∙◌, ◌∷◌, ◌≡◌}
use Rattle.bk_word.specs.Outline.{IsLegalMove, Outline}
use Rattle.bk_word.specs.Play.{AreLegalFrom, after_move, after_moves}
use Rattle.bk_word.specs.Word.{Move, Word}

-- the word cut at a move
pub split_at : (w : Word) (i : ℕ) (m : Move) → slice_get w i ≡ Some m → drop i w ≡ m ∷ drop (i + 1) w
split_at [] i m e = absurd (cc)
split_at (n ∷ w) zero m e = ap (λ (k : Move). k ∷ w) same
  where
    same : n ≡ m
    same = cc
split_at (n ∷ w) (suc i) m e = split_at w i m e ∙ ap (λ (k : ℕ). m ∷ drop k (n ∷ w)) step
  where
    step : suc (i + 1) ≡ suc i + 1
    step = omega arith

-- the outline after it
pub outline_more : (o : Outline) (w : Word) (i : ℕ) (m : Move) → slice_get w i ≡ Some m
    → after_moves o (take (i + 1) w) ≡ after_move (after_moves o (take i w)) m
outline_more o [] i m e = absurd (cc)
outline_more o (n ∷ w) zero m e = ap (after_move o) same
  where
    same : n ≡ m
    same = cc
outline_more o (n ∷ w) (suc i) m e = ap (λ (k : ℕ). after_moves o (take k (n ∷ w))) step ∙ outline_more (after_move o n) w i m e
  where
    step : suc i + 1 ≡ suc (i + 1)
    step = omega arith

-- a move of a legal word is legal where it is played
pub legal_at : (o : Outline) (w : Word) (i : ℕ) (m : Move) → AreLegalFrom o w → slice_get w i ≡ Some m → IsLegalMove (after_moves o (take i w)) m
legal_at o [] i m legal e = absurd (cc)
legal_at o (n ∷ w) zero m legal e = subst (IsLegalMove o) same legal.0
  where
    same : n ≡ m
    same = cc
legal_at o (n ∷ w) (suc i) m legal e = legal_at (after_move o n) w i m legal.1 e
