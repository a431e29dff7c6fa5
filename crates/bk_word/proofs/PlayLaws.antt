-- A word that is played in two parts: what is open after both, and that each is legal where the word is.
use Rattle.std.proofs.Common.{Bool, [], arith, false, length, refl, true, ◌++◌, ◌+◌, ◌∷◌, ◌≡◌, ◌≤◌}
use Rattle.bk_word.proofs.StoredBytes.{order_more}
use Rattle.bk_word.specs.Outline.{IsLegalMove, Outline, has_left_wall, has_right_wall, open_side}
use Rattle.bk_word.specs.Play.{AreLegalFrom, after_move, after_moves}
use Rattle.bk_word.specs.Word.{Move, Word, order_of}

-- what is open after two parts, one played after the other
pub after_moves-append : (o : Outline) (front rest : Word) → after_moves o (front ++ rest) ≡ after_moves (after_moves o front) rest
after_moves-append o [] rest = refl
after_moves-append o (m ∷ front) rest = after_moves-append (after_move o m) front rest

-- what is open after one move more
pub after-snoc : (o : Outline) (w : Word) (m : Move) → after_moves o (w ++ m ∷ []) ≡ after_move (after_moves o w) m
after-snoc o w m = after_moves-append o w (m ∷ [])

-- the second part of a legal word is legal after the first
pub legal_rest : (o : Outline) (front rest : Word) → AreLegalFrom o (front ++ rest) → AreLegalFrom (after_moves o front) rest
legal_rest o [] rest l = l
legal_rest o (m ∷ front) rest l = legal_rest (after_move o m) front rest l.1

-- the first part of a legal word is legal
pub legal_front : (o : Outline) (front rest : Word) → AreLegalFrom o (front ++ rest) → AreLegalFrom o front
legal_front o [] rest l = tt
legal_front o (m ∷ front) rest l = (l.0, legal_front (after_move o m) front rest l.1)

-- a legal word with a legal move more is legal
pub legal-snoc : (o : Outline) (w : Word) (m : Move) → AreLegalFrom o w → IsLegalMove (after_moves o w) m → AreLegalFrom o (w ++ m ∷ [])
legal-snoc o [] m legal last = (last, tt)
legal-snoc o (n ∷ w) m legal last = (legal.0, legal-snoc (after_move o n) w m legal.1 last)

-- the last move of a legal word is legal
pub legal-last : (o : Outline) (w : Word) (m : Move) → AreLegalFrom o (w ++ m ∷ []) → IsLegalMove (after_moves o w) m
legal-last o w m legal = (legal_rest o w (m ∷ []) legal).0

-- a side of the valley has at most one sign
pub side_has_one_sign_at_most : (wall : Bool) → open_side wall ≤ 1
side_has_one_sign_at_most true = omega arith
side_has_one_sign_at_most false = omega arith

-- a legal move has at most one sign more than squares
pub at_most_one_sign_more_than_squares : (o : Outline) (m : Move) → IsLegalMove o m → length m.signs ≤ m.count + 1
at_most_one_sign_more_than_squares o m legal = omega (
  arith,
  legal.signs,
  side_has_one_sign_at_most (has_left_wall o),
  side_has_one_sign_at_most (has_right_wall o),
)

-- a legal word has at most as many moves as squares
pub moves_many : (o : Outline) (w : Word) → AreLegalFrom o w → length w ≤ order_of w
moves_many o [] legal = omega arith
moves_many o (m ∷ w) legal = omega (arith, (legal.0).some, order_more m w, moves_many (after_move o m) w legal.1)
