-- The digits of a word: two for the count of each move and one for each of its signs, at most four for each square.
use Rattle.std.specs.List.{AllByRecursion}
use Rattle.std.proofs.Common.{List, Some, [], ap, append-nil, append_assoc, arith, drop, length, length-append, map, refl, slice_get, suc, sym, take, zero}
use Rattle.std.proofs.Common.{ℕ, ◌%◌, ◌*◌}
use Rattle.std.proofs.Common.{◌++◌, ◌+◌, ◌-◌, ◌/◌, ◌<◌, ◌^◌, ◌∙◌, ◌∷◌, ◌≡◌, ◌≤◌}
use Rattle.std.proofs.lemmas.List.{length-map, take-append-drop}
use Rattle.bk_laws.proofs.AllOfLists.{all_append}
use Rattle.bk_laws.proofs.Multiples.{pow_four-suc}
use Rattle.bk_word.specs.Outline.{Outline}
use Rattle.bk_word.specs.Play.{AreLegalFrom, after_move}
use Rattle.bk_word.specs.Word.{Move, Word, order_of, sign_place}
use Rattle.bk_word.specs.declared.Sign.{Sign}
use Rattle.bk_word.specs.declared.Sign.TheVariants.{Above, Even, Under}
use Rattle.bk_word.proofs.StoredBytes.{order_more}
use Rattle.bk_play.specs.Skeleton.{signs_of}
use Rattle.bk_packed.specs.Packed.{AreDigits, begun_by, move_digits, word_digits}
use Rattle.bk_word.proofs.PlayLaws.{at_most_one_sign_more_than_squares}
use Rattle.bk_packed.proofs.BaseFour.{begun-cons, begun_roomier}

sign_small : (s : Sign) → sign_place s < 4
sign_small Above = omega arith
sign_small Even = omega arith
sign_small Under = omega arith

-- the places of signs are digits
pub signs_digits : (signs : List Sign) → AreDigits (map sign_place signs)
signs_digits [] = tt
signs_digits (s ∷ signs) = (sign_small s, signs_digits signs)

-- the two digits of a count are one of base 16
pub count_digits : (room count : ℕ) (rest : List ℕ) → begun_by (suc (suc room)) ((count - 1) / 4 ∷ (count - 1) % 4 ∷ rest)
    ≡ (count - 1) * 4 ^ room + begun_by room rest
count_digits room count rest =
    begun-cons (suc room) ((count - 1) / 4) ((count - 1) % 4 ∷ rest)
    ∙ omega (
      arith,
      begun-cons room ((count - 1) % 4) rest,
      ap (λ z. (count - 1) / 4 * z) (pow_four-suc room),
      parts ((count - 1) / 4) ((count - 1) % 4) (count - 1) (4 ^ room) (omega arith),
    )
  where
    parts : (a b c p : ℕ) → 4 * a + b ≡ c → a * (4 * p) + b * p ≡ c * p
    parts a b c p e = let f = ap (λ z. z * p) e in omega (arith, f)

-- the two digits of a count stand in front of a number's digits
pub count_before : (count n unit : ℕ) (ds : List ℕ) → length ds ≤ 62 → unit ≡ 4 ^ 62 → n ≡ begun_by 64 ds
    → (count - 1) * unit + n / 16 ≡ begun_by 64 ((count - 1) / 4 ∷ (count - 1) % 4 ∷ ds)
count_before count n unit ds few u e =
    let sixteenth : n / 16 ≡ begun_by 62 ds = omega (arith, e, begun_roomier 63 ds (omega (arith, few)), begun_roomier 62 ds few) in
    ap (λ z. (count - 1) * z + n / 16) u ∙ ap (λ z. (count - 1) * 4 ^ 62 + z) sixteenth ∙ sym (count_digits 62 count ds)

-- a legal word has at most four digits for each of its squares
pub few_digits : (o : Outline) (w : Word) → AreLegalFrom o w → length (word_digits w) ≤ 4 * order_of w
few_digits o [] legal = omega arith
few_digits o (m ∷ w) legal = omega (
  arith,
  legal.0.some,
  order_more m w,
  at_most_one_sign_more_than_squares o m legal.0,
  length-append (move_digits m) (word_digits w),
  length-map m.signs sign_place,
  few_digits (after_move o m) w legal.1,
)

-- where each move hangs at most 16 squares, they are digits
pub are_digits : (w : Word) → AllByRecursion (λ m. m.count ≤ 16) w → AreDigits (word_digits w)
are_digits [] low = tt
are_digits (m ∷ w) low = (
  omega (arith, low.0),
  (
    omega arith,
    all_append (λ d. d < 4) (map sign_place m.signs) (word_digits w) (signs_digits m.signs)
        (are_digits w low.1),
  ),
)

-- no move hangs more squares than the word has
pub low_counts : (n : ℕ) (w : Word) → order_of w ≤ n → AllByRecursion (λ m. m.count ≤ n) w
low_counts n [] few = tt
low_counts n (m ∷ w) few = (omega (arith, few, order_more m w), low_counts n w (omega (arith, few, order_more m w)))

-- the digits up to a move are followed by its own
pub digits_next : (w : Word) (i : ℕ) (m : Move) → slice_get w i ≡ Some m → word_digits (take (i + 1) w) ≡ word_digits (take i w) ++ move_digits m
digits_next [] i m is = absurd (cc)
digits_next (k ∷ w) zero m is = let e : k ≡ m = cc in append-nil (move_digits k) ∙ ap move_digits e
digits_next (k ∷ w) (suc i) m is =
    let e : suc i + 1 ≡ suc (i + 1) = omega arith in
    ap (λ j. word_digits (take j (k ∷ w))) e ∙ ap (λ z. move_digits k ++ z) (digits_next w i m is)
    ∙ sym (append_assoc (move_digits k) (word_digits (take i w)) (move_digits m))

-- the digits of a word's first moves, and of the next one, are no more than those of the word
pub digits_room : (w : Word) (i : ℕ) (m : Move) → slice_get w i ≡ Some m → length (word_digits (take i w)) + length m.signs + 2 ≤ length (word_digits w)
digits_room [] i m is = absurd (cc)
digits_room (k ∷ w) zero m is = let e : k ≡ m = cc in omega (
  arith,
  ap (λ (z : Move). length z.signs) e,
  length-append (move_digits k) (word_digits w),
  length-map k.signs sign_place,
)
digits_room (k ∷ w) (suc i) m is = omega (
  arith,
  digits_room w i m is,
  length-append (move_digits k) (word_digits w),
  length-append (move_digits k) (word_digits (take i w)),
)

-- the digits of moves are those of the first ones and then those of the rest
pub digits_join : (v w : Word) → word_digits (v ++ w) ≡ word_digits v ++ word_digits w
digits_join [] w = refl
digits_join (m ∷ v) w = ap (λ z. move_digits m ++ z) (digits_join v w) ∙ sym (append_assoc (move_digits m) (word_digits v) (word_digits w))

-- a move's digits, those behind it and those of one move more have the room of all
pub digits_behind : (w : Word) (m : Move) (i : ℕ) (n : Move) → slice_get w i ≡ Some n
    → length n.signs + length (word_digits (drop (i + 1) w ++ m ∷ [])) + 2 ≤ length (word_digits w) + length m.signs + 2
digits_behind w m i n is = omega (
  arith,
  ap (λ (z : List ℕ). length z) (digits_join (drop (i + 1) w) (m ∷ [])),
  length-append (word_digits (drop (i + 1) w)) (word_digits (m ∷ [])),
  ap (λ (z : List ℕ). length z) (append-nil (move_digits m)),
  length-map m.signs sign_place,
  ap (λ v. length (word_digits v)) (take-append-drop (i + 1) w),
  ap (λ (z : List ℕ). length z) (digits_join (take (i + 1) w) (drop (i + 1) w)),
  length-append (word_digits (take (i + 1) w)) (word_digits (drop (i + 1) w)),
  ap (λ (z : List ℕ). length z) (digits_next w i n is),
  length-append (word_digits (take i w)) (move_digits n),
  length-map n.signs sign_place,
)

-- a word has two digits for each move, and one for each sign
pub digits_count : (w : Word) → 2 * length w + length (signs_of w) ≡ length (word_digits w)
digits_count [] = refl
digits_count (m ∷ w) = omega (
  arith,
  length-append (move_digits m) (word_digits w),
  length-append m.signs (signs_of w),
  length-map m.signs sign_place,
  digits_count w,
)
