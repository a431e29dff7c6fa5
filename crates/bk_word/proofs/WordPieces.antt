-- The text of a word, piece by piece of its bytes.
use Rattle.std.specs.List.{AllByRecursion}
use Rattle.std.specs.Prelude.{List, [], cond, decimal, drop, flat_map, length, map, refl, slice_index_or, take, true, ℕ, ◌*◌, ◌++◌, ◌+◌, ◌<◌, ◌∷◌, ◌≡◌, ◌≤◌}
use Rattle.std.proofs.Common.{Bool, ap, append_assoc, arith, false, get_or, inl, inr, length-append, sym, ◌∙◌}
use Rattle.std.proofs.lemmas.Bool.{cond-true, cases_lt}
use Rattle.std.proofs.lemmas.Fmt.{decimal_digit, length-decimal-le}
use Rattle.std.proofs.lemmas.Grind.{flat_map-append}
use Rattle.std.proofs.lemmas.List.{append-nil, length-map, take-append-drop, take_more}
use Rattle.bk_word.specs.KeptWord.{CanStand, IsKeptWord}
use Rattle.bk_word.specs.StoredWord.{is_count, piece, sign_byte, sign_of, stored, stored_move}
use Rattle.bk_word.specs.Word.{Move, Word, order_of}
use Rattle.bk_word.specs.WordText.{IsTextOf, IsWrittenMove, letter, move_text, word_text}
use Rattle.bk_word.specs.declared.Sign.{Sign}
use Rattle.bk_word.specs.declared.Sign.TheVariants.{Above, Even, Under}
use Rattle.bk_word.proofs.StoredBytes.{AreLow, count_first, few_low, order_more}

sign_piece : (s : Sign) → piece (sign_byte s) ≡ letter s ∷ []
sign_piece Above = refl
sign_piece Even = refl
sign_piece Under = refl

sign_pieces : (ss : List Sign) → flat_map piece (map sign_byte ss) ≡ map letter ss
sign_pieces [] = refl
sign_pieces (s ∷ ss) = λ i. sign_piece s i ++ sign_pieces ss i

-- moves with a dot before each
abbrev pub behind_dots : Word → List ℕ
behind_dots w = flat_map (λ m. 46 ∷ move_text m) w

text_behind_dots : (m : Move) (w : Word) → word_text (m ∷ w) ≡ move_text m ++ behind_dots w
text_behind_dots m [] = sym (append-nil (move_text m))
text_behind_dots m (n ∷ w) = ap (λ (z : List ℕ). move_text m ++ 46 ∷ z) (text_behind_dots n w)

move_pieces : (m : Move) → m.count < 201 → flat_map piece (stored_move m) ≡ 46 ∷ move_text m
move_pieces m low = λ i. cond-true {A = List ℕ} (is_count m.count) (46 ∷ decimal m.count) (letter (sign_of m.count) ∷ []) (count_first m low) i
    ++ sign_pieces m.signs i

word_pieces : (w : Word) → AreLow w → flat_map piece (stored w) ≡ behind_dots w
word_pieces [] low = refl
word_pieces (m ∷ w) low =
    flat_map-append piece (stored_move m) (stored w) ∙ (λ i. move_pieces m low.0 i ++ word_pieces w low.1 i)

-- the first count, and a piece for each further byte
pub text_pieces : (m : Move) (w : Word) → AreLow (m ∷ w) → word_text (m ∷ w) ≡ decimal m.count ++ flat_map piece (map sign_byte m.signs ++ stored w)
text_pieces m w low =
    text_behind_dots m w
    ∙ append_assoc (decimal m.count) (map letter m.signs) (behind_dots w)
    ∙ ap (λ (z : List ℕ). decimal m.count ++ z) (sym (flat_map-append piece (map sign_byte m.signs) (stored w)
    ∙ (λ i. sign_pieces m.signs i ++ word_pieces w low.1 i)))

-- ---- lengths

short_move : (m : Move) → CanStand m → m.count ≤ 200 → length (46 ∷ move_text m) ≤ 4 * m.count
short_move m can few =
    let parts : length (move_text m) ≡ length (decimal m.count) + length (map letter m.signs) = length-append (decimal m.count) (map letter m.signs) in
    let letters : length (map letter m.signs) ≡ length m.signs = length-map m.signs letter in
    elim (cases_lt m.count 2) [
      | inl one ↦ omega (arith, parts, letters, can.some, can.most, ap (λ (z : List ℕ). length z) (decimal_digit m.count (omega arith)))
      | inr more ↦ omega (arith, parts, letters, can.some, can.most, length-decimal-le 3 m.count (omega arith) (omega arith) (omega arith))
    ]

short_dots : (w : Word) → AllByRecursion CanStand w → order_of w ≤ 200 → length (behind_dots w) ≤ 4 * order_of w
short_dots [] all few = omega arith
short_dots (m ∷ w) all few =
    omega (
      arith,
      length-append (46 ∷ move_text m) (behind_dots w),
      short_move m all.0 (omega (arith, few, order_more m w)),
      short_dots w all.1 (omega (arith, few, order_more m w)),
      order_more m w,
    )

-- the text of a kept word has at most 800 bytes
pub short_text : (w : Word) → IsKeptWord w → 0 < length w → length (word_text w) ≤ 800
short_text [] kept some = omega arith
short_text (m ∷ w) kept some =
    let all : length (behind_dots (m ∷ w)) ≤ 4 * order_of (m ∷ w) = short_dots (m ∷ w) kept.moves kept.few in
    omega (
      arith,
      ap (λ (z : List ℕ). length z) (text_behind_dots m w),
      length-append (move_text m) (behind_dots w),
      length-append (46 ∷ move_text m) (behind_dots w),
      all,
      kept.few,
    )

-- the pieces of the first bytes are part of all
pub first_pieces : (rest : List ℕ) (i : ℕ) → length (flat_map piece (take i rest)) ≤ length (flat_map piece rest)
first_pieces rest i =
    let cut : flat_map piece rest ≡ flat_map piece (take i rest) ++ flat_map piece (drop i rest) =
    ap (λ (z : List ℕ). flat_map piece z) (sym (take-append-drop i rest)) ∙ flat_map-append piece (take i rest) (drop i rest) in
    omega (arith, length-append (flat_map piece (take i rest)) (flat_map piece (drop i rest)), ap (λ (z : List ℕ). length z) cut)

-- the text of a word is its first count and then a piece for each further byte
pub whole_text : (bytes : List ℕ) (w : Word) → bytes ≡ stored w → IsKeptWord w → 0 < length w
    → word_text w ≡ decimal (slice_index_or bytes 0 0) ++ flat_map piece (drop 1 bytes)
whole_text bytes [] is kept some = absurd (omega arith)
whole_text bytes (m ∷ w) is kept some =
    text_pieces m w (few_low (m ∷ w) kept.few) ∙ ap (λ (z : List ℕ). decimal (slice_index_or z 0 0) ++ flat_map piece (drop 1 z)) (sym is)

-- one byte further
pub further_piece : (bytes : List ℕ) (i : ℕ) → i < length bytes
    → flat_map piece (take (i + 1) bytes) ≡ flat_map piece (take i bytes) ++ piece (get_or bytes i 0)
further_piece bytes i within =
    ap (λ (z : List ℕ). flat_map piece z) (take_more bytes i 0 within)
    ∙ flat_map-append piece (take i bytes) (get_or bytes i 0 ∷ [])
    ∙ ap (λ (z : List ℕ). flat_map piece (take i bytes) ++ z) (append-nil (piece (get_or bytes i 0)))

-- the pieces of the first bytes and of the next one are together no longer than all
pub length_further : (bytes : List ℕ) (i : ℕ) → i < length bytes → length (flat_map piece (take i bytes)) + length (piece (get_or bytes i 0))
    ≤ length (flat_map piece bytes)
length_further bytes i within =
    omega (
      arith,
      first_pieces bytes (i + 1),
      ap (λ (z : List ℕ). length z) (further_piece bytes i within),
      length-append (flat_map piece (take i bytes)) (piece (get_or bytes i 0)),
    )

-- a word that has a move has a byte
pub some_byte : (bytes : List ℕ) (w : Word) → bytes ≡ stored w → 0 < length w → 0 < length bytes
some_byte bytes [] is some = absurd (omega arith)
some_byte bytes (m ∷ w) is some = omega (arith, ap (λ (z : List ℕ). length z) is)

-- what is written of a word that can be kept is its text
all_can_be_written : (w : Word) → AllByRecursion CanStand w → order_of w ≤ 200 → AllByRecursion IsWrittenMove w
all_can_be_written [] all few = tt
all_can_be_written (m ∷ w) all few =
    (record { stands = all.0; digits = omega (arith, few, order_more m w) }, all_can_be_written w all.1 (omega (arith, few, order_more m w)))

-- what is written of a kept word is a text of it
pub written_is_text : (w : Word) → IsKeptWord w → 0 < length w → IsTextOf (word_text w) w
written_is_text w kept some = record { some = some; moves = all_can_be_written w kept.moves kept.few; text = refl }

piece_some : (b : ℕ) → 0 < length (piece b)
piece_some b = some (is_count b)
  where
    some : (t : Bool) → 0 < length (cond t (46 ∷ decimal b) (letter (sign_of b) ∷ []))
    some true = omega arith
    some false = omega arith

-- there is room for what is written of a byte
pub room_for_piece : (out start bytes : List ℕ) (i : ℕ) → i < length bytes → length start + length (flat_map piece bytes) + 20 ≤ 9000
    → out ≡ start ++ flat_map piece (take i bytes) → length out + 21 ≤ 9000
room_for_piece out start bytes i within room is =
    omega (
      arith,
      ap (λ (z : List ℕ). length z) is,
      length-append start (flat_map piece (take i bytes)),
      length_further bytes i within,
      piece_some (get_or bytes i 0),
    )
