-- Where the counts stand among the bytes of a word.
use Rattle.std.specs.List.{AllByRecursion}
use Rattle.std.specs.Prelude.{List, Some, [], cond, count_by, drop, false, length, map, refl, slice_get, suc, take, true, zero, ℕ, ◌++◌, ◌+◌, ◌-◌}
use Rattle.std.specs.Prelude.{◌<◌, ◌∷◌, ◌≡◌, ◌≤◌}
use Rattle.std.proofs.Common.{Bool, ap, arith, get_or, length-append, subst, sym, ◌∙◌}
use Rattle.std.proofs.Math.Seq.{take-append_seam}
use Rattle.std.proofs.lemmas.Bool.{cond-false, cond-true}
use Rattle.std.proofs.lemmas.List.{drop_all, drop_more, length-drop, take-append-drop, take_rest}
use Rattle.std.proofs.lemmas.List.Sums.{sum_by-cons}
use Rattle.bk_laws.proofs.AllOfLists.{all_left}
use Rattle.bk_laws.proofs.ListParts.{append-same_front}
use Rattle.bk_word.specs.KeptWord.{CanStand, IsKeptWord}
use Rattle.bk_word.specs.StoredWord.{IsStoredWord, is_count, leading_signs, sign_byte, sign_of, stored, stored_move, word_in}
use Rattle.bk_word.specs.Word.{Move, Word}
use Rattle.bk_word.specs.declared.Sign.{Sign}
use Rattle.bk_word.proofs.StoredBytes.{few_low, order_one, stored_one}

-- the move whose count stands first
abbrev pub move_of : ℕ → List ℕ → Move
move_of b bytes = record { count = b; signs = leading_signs bytes }

-- the byte of a count begins a move
pub at_count : (b : ℕ) (bytes : List ℕ) → is_count b ≡ true → word_in (b ∷ bytes) ≡ move_of b bytes ∷ word_in bytes
at_count b bytes h = cond-true _ _ _ h

-- the byte of a sign begins none
pub at_sign : (b : ℕ) (bytes : List ℕ) → is_count b ≡ false → word_in (b ∷ bytes) ≡ word_in bytes
at_sign b bytes h = cond-false _ _ _ h

-- the moves from the place of a count on are the move there and those behind it
pub count_here : (bytes : List ℕ) (i : ℕ) → i < length bytes → is_count (get_or bytes i 0) ≡ true
    → word_in (drop i bytes) ≡ move_of (get_or bytes i 0) (drop (i + 1) bytes) ∷ word_in (drop (i + 1) bytes)
count_here bytes i within h = ap word_in (drop_more bytes i 0 within) ∙ at_count (get_or bytes i 0) (drop (i + 1) bytes) h

-- the moves from the place of a sign on are those behind it
pub sign_here : (bytes : List ℕ) (i : ℕ) → i < length bytes → is_count (get_or bytes i 0) ≡ false → word_in (drop i bytes) ≡ word_in (drop (i + 1) bytes)
sign_here bytes i within h = ap word_in (drop_more bytes i 0 within) ∙ at_sign (get_or bytes i 0) (drop (i + 1) bytes) h

one_more : (t : Bool) (m : Move) (w : Word) → length (cond t (m ∷ w) w) ≡ cond {A = ℕ} t 1 0 + length w
one_more true m w = omega arith
one_more false m w = omega arith

-- as many counts as moves
pub counts_moves : (bytes : List ℕ) → count_by is_count bytes ≡ length (word_in bytes)
counts_moves [] = refl
counts_moves (b ∷ bytes) =
    let moves : length (word_in (b ∷ bytes)) ≡ cond {A = ℕ} (is_count b) 1 0 + length (word_in bytes) =
    one_more (is_count b) (move_of b bytes) (word_in bytes) in
    omega (arith, sum_by-cons (λ (k : ℕ). cond {A = ℕ} (is_count k) 1 0) b bytes, moves, counts_moves bytes)

-- the move at a place
pub first_dropped : (w : Word) (i : ℕ) (m : Move) (rest : Word) → drop i w ≡ m ∷ rest → slice_get w i ≡ Some m
first_dropped [] zero m rest e = absurd (cc)
first_dropped [] (suc i) m rest e = absurd (cc)
first_dropped (n ∷ w) zero m rest e = let same : n ≡ m = cc in ap (λ (k : Move). Some k) same
first_dropped (n ∷ w) (suc i) m rest e = first_dropped w i m rest e

front_before : (a : List ℕ) (c : ℕ) (rest : List ℕ) → is_count c ≡ true → leading_signs (a ++ c ∷ rest) ≡ leading_signs a
front_before [] c rest h = cond-true _ _ _ h
front_before (b ∷ a) c rest h = ap (λ (l : List Sign). cond (is_count b) [] (sign_of b ∷ l)) (front_before a c rest h)

moves_before : (a : List ℕ) (c : ℕ) (rest : List ℕ) → is_count c ≡ true → word_in (a ++ c ∷ rest) ≡ word_in a ++ word_in (c ∷ rest)
moves_before [] c rest h = refl
moves_before (b ∷ a) c rest h = cases (is_count b) refl (moves_before a c rest h)
  where
    cases : (t : Bool) → is_count b ≡ t → word_in (a ++ c ∷ rest) ≡ word_in a ++ word_in (c ∷ rest)
        → word_in (b ∷ a ++ c ∷ rest) ≡ word_in (b ∷ a) ++ word_in (c ∷ rest)
    cases true low others =
        at_count b (a ++ c ∷ rest) low
        ∙ (λ i. record { count = b; signs = front_before a c rest h i } ∷ others i)
        ∙ ap (λ (w : Word). w ++ word_in (c ∷ rest)) (sym (at_count b a low))
    cases false high others = at_sign b (a ++ c ∷ rest) high ∙ others ∙ ap (λ (w : Word). w ++ word_in (c ∷ rest)) (sym (at_sign b a high))

all_signs : (bytes : List ℕ) → word_in bytes ≡ [] → length (map sign_byte (leading_signs bytes)) ≡ length bytes
all_signs [] e = refl
all_signs (b ∷ bytes) e = cases (is_count b) refl (all_signs bytes)
  where
    cases : (t : Bool) → is_count b ≡ t → (word_in bytes ≡ [] → length (map sign_byte (leading_signs bytes)) ≡ length bytes)
        → length (map sign_byte (leading_signs (b ∷ bytes))) ≡ length (b ∷ bytes)
    cases true h others = let is : move_of b bytes ∷ word_in bytes ≡ [] = sym (at_count b bytes h) ∙ e in absurd (cc)
    cases false h others =
        let fewer : word_in bytes ≡ [] = sym (at_sign b bytes h) ∙ e in
        ap (λ (l : List Sign). length (map sign_byte l)) (cond-false _ _ _ h) ∙ ap (λ (n : ℕ). suc n) (others fewer)

-- what stands before the last count
pub last_off : (a : List ℕ) (c : ℕ) (rest : List ℕ) → is_count c ≡ true → word_in rest ≡ [] → IsStoredWord (a ++ c ∷ rest)
    → (word_in (a ++ c ∷ rest) ≡ word_in a ++ move_of c rest ∷ []) × IsStoredWord a
last_off a c rest h none s =
    let moves : word_in (a ++ c ∷ rest) ≡ word_in a ++ move_of c rest ∷ [] =
    moves_before a c rest h ∙ ap (λ (w : Word). word_in a ++ w) (at_count c rest h ∙ ap (λ (w : Word). move_of c rest ∷ w) none) in
    let kept : IsKeptWord (word_in a ++ move_of c rest ∷ []) = subst IsKeptWord moves s.kept in
    let whole : a ++ c ∷ rest ≡ stored (word_in a) ++ stored_move (move_of c rest) = s.same ∙ ap stored moves ∙ stored_one (word_in a) (move_of c rest) in
    let long : length (c ∷ rest) ≡ length (stored_move (move_of c rest)) = ap (λ (n : ℕ). suc n) (sym (all_signs rest none)) in (
      moves,
      record {
        same = append-same_front a (stored (word_in a)) (c ∷ rest) (stored_move (move_of c rest)) long whole;
        kept = record {
          moves = all_left CanStand (word_in a) (move_of c rest ∷ []) kept.moves;
          few = omega (arith, kept.few, order_one (word_in a) (move_of c rest));
        };
      },
    )

-- one iteration of the search of a count
pub count_passed : (bytes : List ℕ) (k i left : ℕ) → k < length bytes → left ≤ i → 0 < left → is_count (get_or bytes k 0) ≡ true
    → word_in (drop k bytes) ≡ drop (i - left) (word_in bytes)
    → word_in (drop (k + 1) bytes) ≡ drop (i - (left - 1)) (word_in bytes)
count_passed bytes k i left within few some h e =
    let next : drop (i - left) (word_in bytes) ≡ move_of (get_or bytes k 0) (drop (k + 1) bytes) ∷ word_in (drop (k + 1) bytes) =
    sym e ∙ count_here bytes k within h in
    let more : suc (i - left) ≡ i - (left - 1) = omega arith in
    sym (tail_dropped (word_in bytes) (i - left) _ _ next) ∙ ap (λ (n : ℕ). drop n (word_in bytes)) more
  where
    tail_dropped : (w : Word) (n : ℕ) (m : Move) (rest : Word) → drop n w ≡ m ∷ rest → drop (suc n) w ≡ rest
    tail_dropped [] zero m rest e = absurd (cc)
    tail_dropped [] (suc n) m rest e = absurd (cc)
    tail_dropped (k ∷ w) zero m rest e = cc
    tail_dropped (k ∷ w) (suc n) m rest e = tail_dropped w n m rest e

-- no further count where all bytes were passed
pub no_count_where_all_bytes_were_passed : (bytes : List ℕ) (k i left : ℕ) → length bytes ≤ k → i < length (word_in bytes)
    → word_in (drop k bytes) ≡ drop (i - left) (word_in bytes) → ⊥
no_count_where_all_bytes_were_passed bytes k i left all some e =
    let none : drop (i - left) (word_in bytes) ≡ [] = sym e ∙ ap word_in (drop_all k bytes all) in
    omega (arith, length-drop (i - left) (word_in bytes), ap (λ (w : Word). length w) none)

-- at the last count no move is left behind
pub no_move_behind_the_last_count : (bytes : List ℕ) (k : ℕ) → k < length bytes → 0 < length (word_in bytes) → is_count (get_or bytes k 0) ≡ true
    → word_in (drop k bytes) ≡ drop (length (word_in bytes) - 1) (word_in bytes) → word_in (drop (k + 1) bytes) ≡ []
no_move_behind_the_last_count bytes k within some h e =
    let last : move_of (get_or bytes k 0) (drop (k + 1) bytes) ∷ word_in (drop (k + 1) bytes) ≡ drop (length (word_in bytes) - 1) (word_in bytes) =
    sym (count_here bytes k within h) ∙ e in
    empty (word_in (drop (k + 1) bytes)) (omega (arith, length-drop (length (word_in bytes) - 1) (word_in bytes), ap (λ (w : Word). length w) last))
  where
    empty : (w : Word) → length w ≡ 0 → w ≡ []
    empty [] e = refl
    empty (m ∷ w) e = absurd (omega arith)

-- the word without its last move
pub popped : (bytes : List ℕ) (w : Word) (k : ℕ) → IsStoredWord bytes → word_in bytes ≡ w → k < length bytes → 0 < length w
    → is_count (get_or bytes k 0) ≡ true → word_in (drop k bytes) ≡ drop (length (word_in bytes) - 1) (word_in bytes)
    → (word_in (take k bytes) ≡ take (length w - 1) w) × IsStoredWord (take k bytes)
popped bytes w k s is within some h behind =
    let c : ℕ = get_or bytes k 0 in
    let none = no_move_behind_the_last_count bytes k within (subst (λ (v : Word). 0 < length v) (sym is) some) h behind in
    let whole : take k bytes ++ c ∷ drop (k + 1) bytes ≡ bytes = ap (λ (z : List ℕ). take k bytes ++ z) (sym (drop_more bytes k 0 within))
    ∙ take-append-drop k bytes in
    let off = last_off (take k bytes) c (drop (k + 1) bytes) h none (subst IsStoredWord (sym whole) s) in
    let word : w ≡ word_in (take k bytes) ++ move_of c (drop (k + 1) bytes) ∷ [] = sym is ∙ ap word_in (sym whole) ∙ off.0 in
    (sym (ap (λ (v : Word). take (length v - 1) v) word ∙ front_taken (word_in (take k bytes)) (move_of c (drop (k + 1) bytes))), off.1)
  where
    front_taken : (v : Word) (m : Move) → take (length (v ++ m ∷ []) - 1) (v ++ m ∷ []) ≡ v
    front_taken v m =
        let n : length (v ++ m ∷ []) - 1 ≡ length v = omega (arith, length-append v (m ∷ [])) in
        ap (λ (k : ℕ). take k (v ++ m ∷ [])) n ∙ take-append_seam v (m ∷ [])

-- the move whose count stands at a place
pub move_of_count_place : (bytes : List ℕ) (w : Word) (i k : ℕ) → IsStoredWord bytes → word_in bytes ≡ w → k < length bytes → is_count (get_or bytes k 0) ≡ true
    → word_in (drop k bytes) ≡ drop i (word_in bytes)
    → drop i w ≡ move_of (get_or bytes k 0) (drop (k + 1) bytes) ∷ word_in (drop (k + 1) bytes)
move_of_count_place bytes w i k s is within h behind = ap (λ (v : Word). drop i v) (sym is) ∙ sym behind ∙ count_here bytes k within h

-- the count at the place where move i begins, with the signs behind it, is that move
pub got_move : (S B : List ℕ) (w : Word) (i k : ℕ) (signs : List Sign) → S ≡ B → IsStoredWord B → word_in B ≡ w → k < length S
    → is_count (get_or S k 0) ≡ true → word_in (drop k S) ≡ drop i (word_in S)
    → signs ≡ leading_signs (take (length S - (k + 1)) (drop (k + 1) S)) → slice_get w i ≡ Some (record { count = get_or S k 0; signs = signs })
got_move S B w i k signs same s is within h behind e =
    let word : word_in S ≡ w = ap word_in same ∙ is in
    let read : signs ≡ leading_signs (drop (k + 1) S) = e ∙ ap leading_signs (take_rest S (k + 1)) in
    first_dropped w i _ _ (move_of_count_place S w i k (subst IsStoredWord (sym same) s) word within h behind)
    ∙ (λ j. Some (record { count = get_or S k 0; signs = sym read j }))

-- what is left of a word without its last move
pub record Popped (bytes : List ℕ) (w : Word) : Type 0 where
  pub moves : word_in bytes ≡ take (length w - 1) w
  pub is_stored : IsStoredWord bytes

-- the bytes before the last count store the word without its last move
pub popped_at : (S B left : List ℕ) (w : Word) (n k : ℕ) → S ≡ B → IsStoredWord B → word_in B ≡ w → n ≡ length w → 0 < length w → k < length S
    → is_count (get_or S k 0) ≡ true → word_in (drop k S) ≡ drop (n - 1) (word_in S) → left ≡ take k B
    → Popped left w
popped_at S B left w n k same s is count some within h behind e =
    let word : word_in S ≡ w = ap word_in same ∙ is in
    let last : word_in (drop k S) ≡ drop (length (word_in S) - 1) (word_in S) =
    behind ∙ ap (λ (m : ℕ). drop (m - 1) (word_in S)) (count ∙ ap (λ (v : Word). length v) (sym word)) in
    let off = popped S w k (subst IsStoredWord (sym same) s) word within some h last in
    let left_is : left ≡ take k S = e ∙ ap (λ (z : List ℕ). take k z) (sym same) in
    record { moves = ap word_in left_is ∙ off.0; is_stored = subst IsStoredWord (sym left_is) off.1 }

-- what holds of each move holds of the one at a place
at_place : (P : Move → Type 0) (w : Word) (i : ℕ) (m : Move) → AllByRecursion P w → slice_get w i ≡ Some m → P m
at_place P [] zero m all e = absurd (cc)
at_place P [] (suc i) m all e = absurd (cc)
at_place P (n ∷ w) zero m all e = let same : n ≡ m = cc in subst P same all.0
at_place P (n ∷ w) (suc i) m all e = at_place P w i m all.1 e

-- a move that a kept word has at a place can stand, and its count is one of a byte
pub kept_at : (B : List ℕ) (w : Word) (i : ℕ) (m : Move) → IsStoredWord B → word_in B ≡ w → slice_get w i ≡ Some m → CanStand m × (m.count < 201)
kept_at B w i m s is e =
    let kept : IsKeptWord w = subst IsKeptWord is s.kept in
    (at_place CanStand w i m kept.moves e, at_place (λ (k : Move). k.count < 201) w i m (few_low w kept.few) e)
