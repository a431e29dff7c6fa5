-- The digits of a tiling's word, as the tiling is laid move by move.
use Rattle.std.proofs.Common.{List, [], ap, append-nil, arith, length, length-append, sym, ℕ, ◌*◌, ◌++◌, ◌+◌, ◌<◌, ◌∙◌, ◌∷◌, ◌≡◌, ◌≤◌}
use Rattle.std.proofs.lemmas.List.{length-map}
use Rattle.std.proofs.lemmas.List.Sums.{sum_by-append, sum_by-cons}
use Rattle.bk_tiling.specs.Tiling.{Tiling}
use Rattle.bk_word.specs.Word.{Move, Word, order_of, sign_place}
use Rattle.bk_lay.specs.TilingWord.{IsWordOf}
use Rattle.bk_lay.specs.LaidMoves.{IsLaidMove, IsLaidTo}
use Rattle.bk_lay.specs.declared.outline.Outline.{Outline}
use Rattle.bk_packed.specs.TilingDigits.{HasDigitsOf}
use Rattle.bk_packed.specs.Packed.{move_digits, word_digits}
use Rattle.bk_packed.proofs.WordDigits.{digits_join}

-- after some moves: the digits are theirs, at most four for each square
pub record HasLaidDigits (t : Tiling) (o : Outline) (digits : List ℕ) : Type 0 where
  pub word : Word
  pub to : IsLaidTo t word o
  pub are : digits ≡ word_digits word
  pub few : order_of word ≤ length t.squares
  pub room : length digits ≤ 4 * order_of word

-- before the first move no digits are those of the moves so far
pub not_begun : (t : Tiling) (o : Outline) (digits : List ℕ) → IsLaidTo t [] o → digits ≡ [] → HasLaidDigits t o digits
not_begun t o digits to none = record { word = []; to = to; are = none; few = omega arith; room = omega (arith, ap length none) }

module _ (t : Tiling) (o p : Outline) (digits : List ℕ) (has : HasLaidDigits t o digits) (m : Move)
    (next : (w : Word) → IsLaidTo t w o → IsLaidMove t w p m) where
  next_move : IsLaidMove t has.word p m
  next_move = next has.word has.to

  -- there is room for the digits of the next move
  pub room_for_next : length t.squares ≤ 16 → length digits + length m.signs + 2 ≤ 64
  room_for_next few = omega (arith, few, has.room, next_move.fits, next_move.stands.some, next_move.stands.most)

  -- the move hangs a square
  pub some_count : 0 < m.count
  some_count = next_move.stands.some

  -- the digits of a move put behind others are as many as its signs and two
  pub as_long : length (digits ++ move_digits m) ≡ length digits + length m.signs + 2
  as_long = omega (arith, length-append digits (move_digits m), length-map m.signs sign_place)

  order_more : order_of (has.word ++ m ∷ []) ≡ order_of has.word + m.count
  order_more = omega (arith, sum_by-append (λ (m : Move). m.count) has.word (m ∷ []), sum_by-cons (λ (m : Move). m.count) m [])

  -- the digits of a move, put behind those so far, are those of one move more
  pub laid_on : (more : List ℕ) → more ≡ digits ++ move_digits m → HasLaidDigits t p more
  laid_on more is = record {
    word = has.word ++ m ∷ [];
    to = next_move.to;
    are = is ∙ (λ i. has.are i ++ sym (append-nil (move_digits m)) i) ∙ sym (digits_join has.word (m ∷ []));
    few = omega (arith, order_more, next_move.fits);
    room = omega (arith, ap length is, as_long, order_more, has.room, next_move.stands.some, next_move.stands.most);
  }

-- where there is no move more, they are those of the word
pub digits_of_all_squares_where_all_are_laid : (t : Tiling) (o : Outline) (digits : List ℕ) → HasLaidDigits t o digits → length t.squares ≤ 16
    → ((w : Word) → IsLaidTo t w o → IsWordOf t w)
    → HasDigitsOf t digits
digits_of_all_squares_where_all_are_laid t o digits has few last = record {
  word = has.word;
  is_word = last has.word has.to;
  few = omega (arith, few, has.few);
  are = has.are;
}
