-- The digits of a word's next move, and a move from its digits.
use Rattle.std.proofs.Common.{List, Some, ap, arith, length, length-append, map, slice_get, slice_index, slice_index_or, subst, suc, sym, take, zero, ℕ, ◌%◌}
use Rattle.std.proofs.Common.{[], ◌*◌, ◌++◌, ◌+◌, ◌-◌, ◌/◌, ◌<◌, ◌∙◌, ◌∷◌, ◌≡◌, ◌≤◌}
use Rattle.std.proofs.lemmas.List.{length-map}
use Rattle.std.proofs.lemmas.Option.{slice_get-get_or}
use Rattle.bk_word.specs.Outline.{start}
use Rattle.bk_word.specs.Play.{IsLegal}
use Rattle.bk_word.specs.Word.{Move, Word, order_of, sign_place}
use Rattle.bk_word.specs.declared.Sign.{Sign}
use Rattle.bk_word.specs.declared.Sign.TheVariants.{Above, Even, Under}
use Rattle.bk_word.proofs.WordCuts.{legal_at}
use Rattle.bk_packed.specs.Packed.{digit_at, move_digits, word_digits}
use Rattle.bk_packed.specs.ReadMoves.{HasDigits}
use Rattle.bk_packed.proofs.ReadMoves.{has_behind, has_both}
use Rattle.bk_packed.proofs.WordDigits.{digits_next, digits_room, few_digits}

-- the move at a place
abbrev pub move_at : Word → ℕ → Move
move_at w i = slice_index_or w i (record { count = 0; signs = [] })

-- a word has a move at each place before its end
pub move_stands_at : (w : Word) (i : ℕ) → i < length w → slice_get w i ≡ Some (move_at w i)
move_stands_at w i within = slice_get-get_or w i (record { count = 0; signs = [] }) within

-- the move at a place of a word hangs a square, and its digits stand behind those of the moves before it
pub record IsMoveAt (w : Word) (i : ℕ) : Type 0 where
  pub at : slice_get w i ≡ Some (move_at w i)
  pub some : 0 < (move_at w i).count
  pub room : length (word_digits (take i w)) + length (move_at w i).signs + 2 ≤ 64
  pub next : word_digits (take (i + 1) w) ≡ word_digits (take i w) ++ move_digits (move_at w i)

-- each move of a legal word of at most 16 squares hangs a square, its digits behind those before
pub move_is_at : (w : Word) (i : ℕ) → IsLegal w → order_of w ≤ 16 → i < length w → IsMoveAt w i
move_is_at w i legal few within = record {
  at = here;
  some = (legal_at start w i (move_at w i) legal here).some;
  room = omega (arith, digits_room w i (move_at w i) here, few_digits start w legal, few);
  next = digits_next w i (move_at w i) here;
}
  where
    here : slice_get w i ≡ Some (move_at w i)
    here = move_stands_at w i within

-- the first moves of a word with one move more have as many digits more as that one
pub digits_with_one_move_more : (w : Word) (i place signs : ℕ) → IsMoveAt w i → place ≡ length (word_digits (take i w)) → signs ≡ length (move_at w i).signs
    → place + (2 + signs) ≡ length (word_digits (take (i + 1) w))
digits_with_one_move_more w i place signs m e f = omega (
  arith,
  e,
  f,
  ap length m.next,
  length-append (word_digits (take i w)) (move_digits (move_at w i)),
  length-map (move_at w i).signs sign_place,
)

-- the number has the digits up to a move and its own: so it has those up to the next, and the other way round
pub has_next : (number place : ℕ) (w : Word) (i : ℕ) → IsMoveAt w i → place ≡ length (word_digits (take i w)) → HasDigits number 0 (word_digits (take i w))
    → HasDigits number place (move_digits (move_at w i)) → HasDigits number 0 (word_digits (take (i + 1) w))
has_next number place w i m e has more = subst (HasDigits number 0) (sym m.next) (has_both number 0 (word_digits (take i w)) (move_digits (move_at w i)) has
    (subst (λ p. HasDigits number p (move_digits (move_at w i))) same more))
  where
    same : place ≡ 0 + length (word_digits (take i w))
    same = omega (arith, e)

-- a number with the digits of a word's first moves has, from its place, those of the last of these moves
pub has_at : (number place : ℕ) (w : Word) (i : ℕ) → IsMoveAt w i → place ≡ length (word_digits (take i w)) → HasDigits number 0 (word_digits (take (i + 1) w))
    → HasDigits number place (move_digits (move_at w i))
has_at number place w i m e has = subst (λ p. HasDigits number p (move_digits (move_at w i))) same
    (has_behind number 0 (word_digits (take i w)) (move_digits (move_at w i)) (subst (HasDigits number 0) m.next has))
  where
    same : 0 + length (word_digits (take i w)) ≡ place
    same = omega (arith, e)

-- ---- a move from its digits

-- the two digits of the count, and those of the signs
pub has_made : (number place a b count : ℕ) (signs : List Sign) → a ≡ digit_at number place → b ≡ digit_at number (place + 1) → 4 * a + b + 1 ≡ count
    → HasDigits number (place + 2) (map sign_place signs) → HasDigits number place (move_digits (record { count = count; signs = signs }))
has_made number place a b count signs e f g has zero low =
    let h : place + 0 ≡ place = omega arith in ap (digit_at number) h ∙ omega (arith, e, f, g)
has_made number place a b count signs e f g has (suc zero) low =
    omega (arith, e, f, g)
has_made number place a b count signs e f g has (suc (suc k)) low =
    let h : place + suc (suc k) ≡ place + 2 + k = omega arith in ap (digit_at number) h ∙ has k (omega (arith, low))

-- the count that a number has from a place on
pub made_count : (number place a b : ℕ) (m : Move) → a ≡ digit_at number place → b ≡ digit_at number (place + 1) → 0 < m.count
    → HasDigits number place (move_digits m) → 4 * a + b + 1 ≡ m.count
made_count number place a b m e f some has =
    let h : place + 0 ≡ place = omega arith in
    let first : digit_at number place ≡ (m.count - 1) / 4 = sym (ap (digit_at number) h) ∙ has 0 (omega arith) in
    let second : digit_at number (place + 1) ≡ (m.count - 1) % 4 = has 1 (omega arith) in
    omega (arith, e, f, first, second)

-- the signs that a number has behind the count of a move
pub made_signs : (number place : ℕ) (m : Move) → HasDigits number place (move_digits m) → HasDigits number (place + 2) (map sign_place m.signs)
made_signs number place m has k low =
    let h : place + 2 + k ≡ place + suc (suc k) = omega arith in ap (digit_at number) h ∙ has (suc (suc k)) (omega (arith, low))

-- the place of a sign is one of three
pub sign_low : (signs : List Sign) (k : ℕ) → slice_index (map sign_place signs) k < 3
sign_low [] k = omega arith
sign_low (Above ∷ signs) zero = omega arith
sign_low (Even ∷ signs) zero = omega arith
sign_low (Under ∷ signs) zero = omega arith
sign_low (s ∷ signs) (suc k) = sign_low signs k
