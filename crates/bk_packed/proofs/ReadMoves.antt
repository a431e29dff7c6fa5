-- A number has the digits of one word: so its moves are read back, and words that share them begin alike.
use Rattle.std.proofs.Common.{List, [], ap, arith, drop, inl, inr, length, length-append, map, refl}
use Rattle.std.proofs.Common.{slice_index, subst, suc, sym}
use Rattle.std.proofs.Common.{take, zero, ℕ, ◌++◌, ◌+◌, ◌-◌, ◌<◌, ◌∙◌, ◌∷◌, ◌≡◌, ◌≤◌, ◌⊎◌}
use Rattle.std.proofs.lemmas.Bool.{cases_lt}
use Rattle.std.proofs.lemmas.List.{get_or-append-add, get_or_append_left, length-map, take-append-drop}
use Rattle.bk_word.specs.Outline.{IsLegalMove, Outline, start}
use Rattle.bk_word.specs.Play.{AreLegalFrom, IsLegal, after_move, outline_of}
use Rattle.bk_word.specs.Word.{Move, Word, order_of, sign_place}
use Rattle.bk_word.specs.declared.Sign.{Sign}
use Rattle.bk_word.specs.declared.Sign.TheVariants.{Above, Even, Under}
use Rattle.bk_word.proofs.PlayLaws.{legal_front, legal_rest}
use Rattle.bk_word.proofs.StoredBytes.{order_append, order_more}
use Rattle.bk_packed.specs.Packed.{digit_at, move_digits, packed, word_digits}
use Rattle.bk_packed.specs.ReadMoves.{HasDigits, IsSharedFront}
use Rattle.bk_packed.proofs.DigitsBack.{digit_back}
use Rattle.bk_packed.proofs.WordDigits.{are_digits, digits_join, few_digits, low_counts}

-- digits of two parts
pub has_front : (number place : ℕ) (ds es : List ℕ) → HasDigits number place (ds ++ es) → HasDigits number place ds
has_front number place ds es has k low = has k (omega (arith, length-append ds es)) ∙ get_or_append_left ds es 0 k low

-- a number with the digits of two lists has those of the second, from their own place on
pub has_behind : (number place : ℕ) (ds es : List ℕ) → HasDigits number place (ds ++ es) → HasDigits number (place + length ds) es
has_behind number place ds es has k low =
    let e : place + length ds + k ≡ place + (length ds + k) = omega arith in
    ap (digit_at number) e ∙ has (length ds + k) (omega (arith, length-append ds es)) ∙ get_or-append-add ds es k 0

-- a number with the digits of one list and of another behind it has those of both together
pub has_both : (number place : ℕ) (ds es : List ℕ) → HasDigits number place ds → HasDigits number (place + length ds) es → HasDigits number place (ds ++ es)
has_both number place ds es front behind k low = cases (cases_lt k (length ds))
  where
    cases : (k < length ds) ⊎ (length ds ≤ k) → digit_at number (place + k) ≡ slice_index (ds ++ es) k
    cases (inl h) = front k h ∙ sym (get_or_append_left ds es 0 k h)
    cases (inr h) =
        let e : place + k ≡ place + length ds + (k - length ds) = omega arith in
        let f : length ds + (k - length ds) ≡ k = omega arith in
        ap (digit_at number) e ∙ behind (k - length ds) (omega (arith, length-append ds es)) ∙ sym (get_or-append-add ds es (k - length ds) 0)
        ∙ ap (λ i. slice_index (ds ++ es) i) f

-- the number of a word has its digits
pub has_word : (w : Word) → IsLegal w → order_of w ≤ 16 → HasDigits (packed w) 0 (word_digits w)
has_word w legal few k low =
    let e : 0 + k ≡ k = omega arith in
    ap (digit_at (packed w)) e ∙ digit_back (word_digits w) k (are_digits w (low_counts 16 w few)) (omega (arith, few_digits start w legal, few))
    (omega (arith, few_digits start w legal, few, low))

place_same : (s t : Sign) → sign_place s ≡ sign_place t → s ≡ t
place_same Above Above e = refl
place_same Above Even e = absurd (omega (arith, e))
place_same Above Under e = absurd (omega (arith, e))
place_same Even Above e = absurd (omega (arith, e))
place_same Even Even e = refl
place_same Even Under e = absurd (omega (arith, e))
place_same Under Above e = absurd (omega (arith, e))
place_same Under Even e = absurd (omega (arith, e))
place_same Under Under e = refl

signs_same : (s t : List Sign) → length s ≡ length t
    → ((k : ℕ) → k < length s → slice_index (map sign_place s) k ≡ slice_index (map sign_place t) k) → s ≡ t
signs_same [] [] e same = refl
signs_same [] (t ∷ ts) e same = absurd (omega (arith, e))
signs_same (s ∷ ss) [] e same = absurd (omega (arith, e))
signs_same (s ∷ ss) (t ∷ ts) e same =
    (λ i. place_same s t (same zero (omega arith)) i ∷ signs_same ss ts (omega (arith, e)) (λ k low. same (suc k) (omega arith)) i)

-- two moves whose digits a number has from one place on are one, where they have as many signs if they hang as many squares
pub one_move : (number place : ℕ) (m n : Move) → 0 < m.count → 0 < n.count → (m.count ≡ n.count → length m.signs ≡ length n.signs)
    → HasDigits number place (move_digits m) → HasDigits number place (move_digits n) → m ≡ n
one_move number place m n some some_n long has has_n = λ i. record { count = count i; signs = signs i }
  where
    count : m.count ≡ n.count
    count = omega (arith, sym (has 0 (omega arith)) ∙ has_n 0 (omega arith), sym (has 1 (omega arith)) ∙ has_n 1 (omega arith))

    signs : m.signs ≡ n.signs
    signs = signs_same m.signs n.signs (long count)
        (λ k low. sym (has (suc (suc k)) (omega (arith, length-map m.signs sign_place)))
        ∙ has_n (suc (suc k)) (omega (arith, length-map n.signs sign_place, long count)))

-- a word that has the digits of moves from where its own begin begins with these moves, where they hang no more squares
begins_with : (number place : ℕ) (o : Outline) (v w : Word) → AreLegalFrom o v → AreLegalFrom o w → order_of v ≤ order_of w
    → HasDigits number place (word_digits v) → HasDigits number place (word_digits w) → (rest : Word) × (w ≡ v ++ rest)
begins_with number place o [] w legal legal_w few has has_w = (w, refl)
begins_with number place o (m ∷ v) [] legal legal_w few has has_w = absurd (omega (arith, few, order_more m v, legal.0.some))
begins_with number place o (m ∷ v) (n ∷ w) legal legal_w few has has_w =
    onto (begins_with number (place + length (move_digits m)) (after_move o m) v w legal.1
    (subst (λ (k : Move). AreLegalFrom (after_move o k) w) (sym same) legal_w.1)
    (omega (arith, few, order_more m v, order_more n w, ap (λ (k : Move). k.count) same))
    (has_behind number place (move_digits m) (word_digits v) has)
    (subst (λ (k : Move). HasDigits number (place + length (move_digits k)) (word_digits w)) (sym same) (has_behind number place (move_digits n)
    (word_digits w) has_w)))
  where
    same : m ≡ n
    same = one_move number place m n legal.0.some legal_w.0.some (λ e. omega (arith, (legal.0).signs, (legal_w.0).signs, e))
        (has_front number place (move_digits m) (word_digits v) has) (has_front number place (move_digits n) (word_digits w) has_w)

    onto : (rest : Word) × (w ≡ v ++ rest) → (rest : Word) × (n ∷ w ≡ (m ∷ v) ++ rest)
    onto (rest, is) = (rest, λ i. sym same i ∷ is i)

-- so many first moves are legal and few
front_legal : (v : Word) (i : ℕ) → IsLegal v → IsLegal (take i v)
front_legal v i legal = legal_front start (take i v) (drop i v) (subst IsLegal (sym (take-append-drop i v)) legal)

-- how far two words are alike, and no further
pub alike_up_to_place : (v w : Word) (i : ℕ) → IsLegal v → IsLegal w → order_of v ≤ order_of w → order_of w ≤ 16
    → HasDigits (packed w) 0 (word_digits (take i v)) → (i < length v → HasDigits (packed w) 0 (word_digits (take (i + 1) v)) → ⊥) → IsSharedFront v w i
alike_up_to_place v w i legal legal_w e few has not = record { rest = begun.0; is = begun.1; most = λ low more is. not low (other low more is) }
  where
    begun : (rest : Word) × (w ≡ take i v ++ rest)
    begun = begins_with (packed w) 0 start (take i v) w (front_legal v i legal) legal_w
        (omega (arith, e, ap order_of (take-append-drop i v), order_append (take i v) (drop i v))) has (has_word w legal_w few)

    other : i < length v → (more : Word) → w ≡ take (i + 1) v ++ more → HasDigits (packed w) 0 (word_digits (take (i + 1) v))
    other low more is = has_front (packed w) 0 (word_digits (take (i + 1) v)) (word_digits more)
        (subst (HasDigits (packed w) 0) (ap word_digits is ∙ digits_join (take (i + 1) v) more) (has_word w legal_w few))

-- what is known of the move by which a number's word goes on
pub record IsReadFrom (front : Word) (number : ℕ) (next : Move) : Type 0 where
  pub legal : IsLegalMove (outline_of front) next
  pub has : HasDigits number (length (word_digits front)) (move_digits next)
  pub room : length (word_digits front) + length (move_digits next) ≤ 64
  pub few : next.count ≤ 16
  pub legal_front : IsLegal front
  pub few_front : order_of front ≤ 16

-- the digits of a word's next move are read from its number at the end of those before
pub read_from : (front : Word) (number : ℕ) (next : Move) (rest : Word) → IsLegal (front ++ next ∷ rest) → order_of (front ++ next ∷ rest) ≤ 16
    → packed (front ++ next ∷ rest) ≡ number → IsReadFrom front number next
read_from front number next rest legal few is = record {
  legal = (legal_rest start front (next ∷ rest) legal).0;
  has = has_front number (length (word_digits front)) (move_digits next) (word_digits rest) (subst (λ p. HasDigits number p (word_digits (next ∷ rest))) none
      (has_behind number 0 (word_digits front) (word_digits (next ∷ rest)) whole));
  room = omega (
    arith,
    few_digits start (front ++ next ∷ rest) legal,
    few,
    ap length (digits_join front (next ∷ rest)),
    length-append (word_digits front) (word_digits (next ∷ rest)),
    length-append (move_digits next) (word_digits rest),
  );
  few = omega (arith, few, order_append front (next ∷ rest), order_more next rest);
  legal_front = legal_front start front (next ∷ rest) legal;
  few_front = omega (arith, few, order_append front (next ∷ rest));
}
  where
    none : 0 + length (word_digits front) ≡ length (word_digits front)
    none = omega arith

    whole : HasDigits number 0 (word_digits front ++ word_digits (next ∷ rest))
    whole = subst (λ n. HasDigits n 0 (word_digits front ++ word_digits (next ∷ rest))) is
        (subst (HasDigits (packed (front ++ next ∷ rest)) 0) (digits_join front (next ∷ rest)) (has_word (front ++ next ∷ rest) legal few))
