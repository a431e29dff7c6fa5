-- The bytes of a word are those of one word, and few.
use Rattle.std.specs.List.{AllByRecursion}
use Rattle.std.specs.Prelude.{List, [], length, map, refl, true, ℕ, ◌*◌, ◌++◌, ◌+◌, ◌<◌, ◌∷◌, ◌≡◌, ◌≤◌}
use Rattle.std.proofs.Common.{ap, arith, length-append, subst, sym, ◌∙◌}
use Rattle.std.proofs.lemmas.Bool.{cond-true, lt-ltb}
use Rattle.std.proofs.lemmas.Grind.{flat_map-append}
use Rattle.std.proofs.lemmas.List.{append-nil, length-map}
use Rattle.std.proofs.lemmas.List.Sums.{sum_by-append, sum_by-cons}
use Rattle.bk_word.specs.KeptWord.{CanStand, IsKeptWord}
use Rattle.bk_word.specs.StoredWord.{IsKeptBuffer, IsStoredWord, is_count, leading_signs, sign_byte, stored, stored_move, word_in}
use Rattle.bk_word.specs.Word.{Move, Word, order_of}
use Rattle.bk_word.specs.declared.Sign.{Sign}
use Rattle.bk_word.specs.declared.Sign.TheVariants.{Above, Even, Under}

-- counts that a byte holds
abbrev pub AreLow : Word → Type 0
AreLow w = AllByRecursion (λ (m : Move). m.count < 201) w

-- the order of a word that begins with a move
pub order_more : (m : Move) (w : Word) → order_of (m ∷ w) ≡ m.count + order_of w
order_more m w = sum_by-cons (λ (k : Move). k.count) m w

-- no move of a word of at most 200 squares hangs more than a byte tells
pub few_low : (w : Word) → order_of w ≤ 200 → AreLow w
few_low [] few = tt
few_low (m ∷ w) few = (omega (arith, order_more m w), few_low w (omega (arith, order_more m w)))

-- the count of a move of at most 200 squares is stored as the byte of a count
pub count_first : (m : Move) → m.count < 201 → is_count m.count ≡ true
count_first m low = lt-ltb m.count 201 low

-- what stands behind the byte of a sign
sign_next : (s : Sign) (bytes : List ℕ) → (leading_signs (sign_byte s ∷ bytes) ≡ s ∷ leading_signs bytes) × (word_in (sign_byte s ∷ bytes) ≡ word_in bytes)
sign_next Above bytes = (refl, refl)
sign_next Even bytes = (refl, refl)
sign_next Under bytes = (refl, refl)

no_front : (w : Word) → AreLow w → leading_signs (stored w) ≡ []
no_front [] low = refl
no_front (m ∷ w) low = cond-true _ _ _ (count_first m low.0)

front_read : (ss : List Sign) (w : Word) → AreLow w → leading_signs (map sign_byte ss ++ stored w) ≡ ss
front_read [] w low = no_front w low
front_read (s ∷ ss) w low = (sign_next s (map sign_byte ss ++ stored w)).0 ∙ ap (λ (l : List Sign). s ∷ l) (front_read ss w low)

front_passed : (ss : List Sign) (bytes : List ℕ) → word_in (map sign_byte ss ++ bytes) ≡ word_in bytes
front_passed [] bytes = refl
front_passed (s ∷ ss) bytes = (sign_next s (map sign_byte ss ++ bytes)).1 ∙ front_passed ss bytes

abbrev with_front : ℕ → List Sign → Word → Word
with_front count signs w = record { count = count; signs = signs } ∷ w

-- the stored word is read as itself
pub read_back : (w : Word) → AreLow w → word_in (stored w) ≡ w
read_back [] low = refl
read_back (m ∷ w) low =
    cond-true _ _ _ (count_first m low.0)
    ∙ (λ i. with_front m.count (front_read m.signs w low.1 i) (word_in (map sign_byte m.signs ++ stored w)))
    ∙ ap (with_front m.count m.signs) (front_passed m.signs (stored w) ∙ read_back w low.1)

-- bytes that store a word which can be kept
pub stored_bytes_of_a_word_that_can_be_kept : (bytes : List ℕ) (w : Word) → bytes ≡ stored w → IsKeptWord w → (word_in bytes ≡ w) × IsStoredWord bytes
stored_bytes_of_a_word_that_can_be_kept bytes w is kept =
    let back : word_in bytes ≡ w = ap word_in is ∙ read_back w (few_low w kept.few) in
    (back, record { same = is ∙ ap stored (sym back); kept = subst IsKeptWord (sym back) kept })

-- words one after another are stored one after another
pub stored_append : (v w : Word) → stored (v ++ w) ≡ stored v ++ stored w
stored_append v w = flat_map-append stored_move v w

-- a word with a further move is stored with that move behind it
pub stored_one : (w : Word) (m : Move) → stored (w ++ m ∷ []) ≡ stored w ++ stored_move m
stored_one w m = stored_append w (m ∷ []) ∙ ap (λ (z : List ℕ). stored w ++ z) (append-nil (stored_move m))

-- the orders of words one after another add up
pub order_append : (v w : Word) → order_of (v ++ w) ≡ order_of v + order_of w
order_append v w = sum_by-append (λ (k : Move). k.count) v w

-- a further move hangs so many squares more
pub order_one : (w : Word) (m : Move) → order_of (w ++ m ∷ []) ≡ order_of w + m.count
order_one w m = omega (arith, order_append w (m ∷ []), order_more m [])

-- a word whose moves hang squares, and have at most one sign more than squares, is stored in at most three bytes a square
pub stored-le_three_times_order : (w : Word) → AllByRecursion (λ (m : Move). (0 < m.count) × (length m.signs ≤ m.count + 1)) w
    → length (stored w) ≤ 3 * order_of w
stored-le_three_times_order [] all = omega arith
stored-le_three_times_order (m ∷ w) all =
    let bytes : length (stored_move m ++ stored w) ≡ length (stored_move m) + length (stored w) = length-append (stored_move m) (stored w) in
    let signs : length (map sign_byte m.signs) ≡ length m.signs = length-map m.signs sign_byte in
    omega (arith, bytes, signs, stored-le_three_times_order w all.1, all.0.0, all.0.1, order_more m w)

-- each move that can stand hangs a square, and has at most one sign more than squares
pub standing : (w : Word) → AllByRecursion CanStand w → AllByRecursion (λ (m : Move). (0 < m.count) × (length m.signs ≤ m.count + 1)) w
standing [] all = tt
standing (m ∷ w) all = ((all.0.some, all.0.most), standing w all.1)

-- a stored word has at most three bytes a square
pub kept_short : (bytes : List ℕ) → IsStoredWord bytes → length bytes ≤ 3 * order_of (word_in bytes)
kept_short bytes s = subst (λ (z : List ℕ). length z ≤ 3 * order_of (word_in bytes)) (sym s.same)
    (stored-le_three_times_order (word_in bytes) (standing (word_in bytes) s.kept.moves))

-- a word of moves that can stand, with one more of them
pub all_can_stand_with_one_move_more : (w : Word) (m : Move) → AllByRecursion CanStand w → CanStand m → AllByRecursion CanStand (w ++ m ∷ [])
all_can_stand_with_one_move_more [] m all one = (one, tt)
all_can_stand_with_one_move_more (n ∷ w) m all one = (all.0, all_can_stand_with_one_move_more w m all.1 one)

-- a further move
pub kept_one : (w : Word) (m : Move) → IsKeptWord w → CanStand m → order_of w + m.count ≤ 200 → IsKeptWord (w ++ m ∷ [])
kept_one w m kept one few = record { moves = all_can_stand_with_one_move_more w m kept.moves one; few = omega (arith, order_one w m) }

-- a move's bytes behind those of a word store the word with that move
pub pushed : (bytes : List ℕ) (w : Word) (m : Move) → IsStoredWord bytes → word_in bytes ≡ w → CanStand m → order_of w + m.count ≤ 200
    → (word_in (bytes ++ stored_move m) ≡ w ++ m ∷ []) × IsStoredWord (bytes ++ stored_move m)
pushed bytes w m s is one few =
    let kept : IsKeptWord w = subst IsKeptWord is s.kept in
    stored_bytes_of_a_word_that_can_be_kept (bytes ++ stored_move m) (w ++ m ∷ []) (ap (λ (z : List ℕ). z ++ stored_move m) (s.same ∙ ap stored is)
    ∙ sym (stored_one w m)) (kept_one w m kept one few)

-- a move has room where the word then has at most 64 bytes
pub has_bytes : (bytes : List ℕ) (w : Word) (m : Move) (capacity : ℕ) → IsKeptBuffer bytes capacity → word_in bytes ≡ w
    → length (stored w) + length (stored_move m) ≤ 64 → length bytes + length (stored_move m) ≤ capacity
has_bytes bytes w m capacity kept is few =
    let same : length bytes ≡ length (stored w) = ap (λ (z : List ℕ). length z) ((kept.stored).same ∙ ap stored is) in
    omega (arith, same, kept.room)

-- a move has room where the word then has at most 16 squares
pub move_fits_where_squares_are_few : (bytes : List ℕ) (w : Word) (m : Move) (capacity : ℕ) → IsKeptBuffer bytes capacity → word_in bytes ≡ w → CanStand m
    → order_of w + m.count ≤ 16
    → length bytes + length (stored_move m) ≤ capacity
move_fits_where_squares_are_few bytes w m capacity kept is one few =
    let signs : length (map sign_byte m.signs) ≡ length m.signs = length-map m.signs sign_byte in
    let before : length bytes ≤ 3 * order_of w = subst (λ (v : Word). length bytes ≤ 3 * order_of v) is (kept_short bytes kept.stored) in
    omega (arith, signs, before, kept.room, one.some, one.most)
