-- The moves of a legal word, read one after another.
use Rattle.std.proofs.Common.{Some, ap, arith, drop, slice_get, subst, take, ℕ, ◌+◌, ◌∷◌, ◌≡◌, ◌≤◌}
use Rattle.bk_laws.proofs.ListPlaces.{take-cons_drop}
use Rattle.bk_word.specs.KeptWord.{CanStand}
use Rattle.bk_word.specs.Outline.{IsLegalMove, Outline, has_left_wall, has_right_wall, start}
use Rattle.bk_word.specs.Play.{IsLegal, outline_of}
use Rattle.bk_word.specs.Word.{Move, Word, order_of}
use Rattle.bk_word.proofs.StoredBytes.{order_append, order_more}
use Rattle.bk_word.proofs.PlayLaws.{legal_rest, side_has_one_sign_at_most}

-- a legal move at its place can stand in a word
pub legal_stands : (word : Word) (i : ℕ) (m : Move) → IsLegal word → slice_get word i ≡ Some m → CanStand m
legal_stands word i m l g =
    stands (outline_of (take i word)) (legal_rest start (take i word) (m ∷ drop (i + 1) word) (subst IsLegal (take-cons_drop word i m g) l)).0
  where
    stands : (o : Outline) → IsLegalMove o m → CanStand m
    stands o k = record {
      some = k.some;
      least = omega (arith, k.signs);
      most =
          omega (arith, k.signs, side_has_one_sign_at_most (has_left_wall o), side_has_one_sign_at_most (has_right_wall o));
    }

-- the moves up to a place, and the one there, hang no more squares than the word
pub order_at : (word : Word) (i : ℕ) (m : Move) (k : ℕ) → slice_get word i ≡ Some m → order_of word ≤ k → order_of (take i word) + m.count ≤ k
order_at word i m k g few = omega (
  arith,
  few,
  ap order_of (take-cons_drop word i m g),
  order_append (take i word) (m ∷ drop (i + 1) word),
  order_more m (drop (i + 1) word),
)
