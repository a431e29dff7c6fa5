-- Packed words compare as words: digits of base 4 from the top compare as the numbers do, and a count and the signs behind it
-- are as many digits in both words, up to the first difference.
use Rattle.std.specs.Cmp.{nat_cmp_is}
use Rattle.std.specs.Cmp.Lexicographic.{slice_cmp}
use Rattle.std.specs.List.{AllByRecursion}
use Rattle.std.specs.Ordering.{nat_cmp, ordering_then}
use Rattle.std.specs.declared.cmp.Ordering.{Ordering}
use Rattle.std.specs.declared.cmp.Ordering.TheVariants.{Equal, Greater, Less}
use Rattle.std.proofs.Common.{List, [], ap, arith, inl, inr, length, length-append, map, refl, subst, suc, sym, zero, ℕ, ◌*◌, ◌++◌, ◌+◌, ◌-◌, ◌<◌, ◌^◌, ◌∙◌}
use Rattle.std.proofs.Common.{◌∷◌, ◌≡◌, ◌≤◌, ◌⊎◌, ◌↔◌}
use Rattle.std.proofs.lemmas.Bool.{cases_lt}
use Rattle.std.proofs.lemmas.List.{length-map}
use Rattle.bk_laws.proofs.AllOfLists.{all_append}
use Rattle.bk_laws.proofs.NumberOrder.{lt_or_eq_or_gt}
use Rattle.bk_laws.proofs.Orderings.{lt-from_nat_cmp, nat_cmp-first_digit_decides, nat_cmp-pred, ordering_then-assoc}
use Rattle.bk_word.specs.Outline.{IsLegalMove, Outline, start}
use Rattle.bk_word.specs.Play.{AreLegalFrom, after_move}
use Rattle.bk_word.specs.Word.{Follows, Move, Word, move_cmp, order_of, sign_cmp, sign_place, word_cmp}
use Rattle.bk_word.specs.declared.Sign.{Sign}
use Rattle.bk_word.proofs.StoredBytes.{order_more}
use Rattle.bk_packed.specs.Packed.{AreDigits, begun_by, packed, word_digits}
use Rattle.bk_packed.specs.PackedLaws.{PackedPlacesCompare, PackedWordsCompare}
use Rattle.bk_word.proofs.PlayLaws.{at_most_one_sign_more_than_squares}
use Rattle.bk_word.proofs.WordOrder.{move_same}
use Rattle.bk_packed.proofs.BaseFour.{begun-cons, digits_small}
use Rattle.bk_packed.proofs.WordDigits.{signs_digits, count_digits, few_digits, are_digits, low_counts}

-- signs of one number, and digits behind them
signs_decide : (room : ℕ) (s t : List Sign) (ds es : List ℕ) → length s ≡ length t → AreDigits ds → AreDigits es
    → length s + length ds ≤ room → length t + length es ≤ room
    → nat_cmp (begun_by room (map sign_place s ++ ds)) (begun_by room (map sign_place t ++ es))
    ≡ ordering_then (slice_cmp sign_cmp s t) (nat_cmp (begun_by (room - length s) ds) (begun_by (room - length s) es))
signs_decide room [] [] ds es e digits digits_e few few_e = let none : room ≡ room - 0 = omega arith in ap (λ r. nat_cmp (begun_by r ds) (begun_by r es)) none
signs_decide room [] (t ∷ ts) ds es e digits digits_e few few_e = absurd (omega arith)
signs_decide room (s ∷ ss) [] ds es e digits digits_e few few_e = absurd (omega arith)
signs_decide zero (s ∷ ss) (t ∷ ts) ds es e digits digits_e few few_e = absurd (omega arith)
signs_decide (suc room) (s ∷ ss) (t ∷ ts) ds es e digits digits_e few few_e =
    ap (λ z. nat_cmp z (begun_by (suc room) (sign_place t ∷ map sign_place ts ++ es))) (begun-cons room (sign_place s) (map sign_place ss ++ ds))
    ∙ ap (nat_cmp (sign_place s * 4 ^ room + begun_by room (map sign_place ss ++ ds))) (begun-cons room (sign_place t) (map sign_place ts ++ es))
    ∙ nat_cmp-first_digit_decides (sign_place s) (sign_place t) (4 ^ room) (begun_by room (map sign_place ss ++ ds)) (begun_by room (map sign_place ts ++ es))
    (digits_small room (map sign_place ss ++ ds) (all_append (λ d. d < 4) (map sign_place ss) ds (signs_digits ss) digits) (few_digits ss ds few))
    (digits_small room (map sign_place ts ++ es) (all_append (λ d. d < 4) (map sign_place ts) es (signs_digits ts) digits_e) (few_digits ts es few_e))
    ∙ ap (ordering_then (sign_cmp s t)) (signs_decide room ss ts ds es (omega arith) digits digits_e (omega arith) (omega arith)
    ∙ ap (λ r. ordering_then (slice_cmp sign_cmp ss ts) (nat_cmp (begun_by r ds) (begun_by r es))) shorter)
    ∙ sym (ordering_then-assoc (sign_cmp s t) (slice_cmp sign_cmp ss ts)
    (nat_cmp (begun_by (suc room - length (s ∷ ss)) ds) (begun_by (suc room - length (s ∷ ss)) es)))
  where
    few_digits : (xs : List Sign) (fs : List ℕ) → suc (length xs) + length fs ≤ suc room → length (map sign_place xs ++ fs) ≤ room
    few_digits xs fs h = omega (arith, length-append (map sign_place xs) fs, length-map xs sign_place)

    shorter : room - length ss ≡ suc room - length (s ∷ ss)
    shorter = omega arith

as_many_signs : (o : Outline) (m n : Move) → IsLegalMove o m → IsLegalMove o n → m.count ≡ n.count → length m.signs ≡ length n.signs
as_many_signs o m n legal legal_n e = omega (arith, legal.signs, legal_n.signs)

-- the numbers of two words without the counts of their first moves
abbrev tails_cmp : ℕ → Move → Move → Word → Word → Ordering
tails_cmp room m n v w = nat_cmp (begun_by room (map sign_place m.signs ++ word_digits v)) (begun_by room (map sign_place n.signs ++ word_digits w))

digits_low : (o : Outline) (m : Move) (w : Word) (room : ℕ) → AreLegalFrom o (m ∷ w) → 4 * order_of (m ∷ w) ≤ suc (suc room)
    → AllByRecursion (λ k. k.count ≤ 16) (m ∷ w)
    → begun_by room (map sign_place m.signs ++ word_digits w) < 4 ^ room
digits_low o m w room legal few low = digits_small room (map sign_place m.signs ++ word_digits w)
    (all_append (λ d. d < 4) (map sign_place m.signs) (word_digits w) (signs_digits m.signs) (are_digits w low.1))
    (omega (
      arith,
      few,
      order_more m w,
      legal.0.some,
      at_most_one_sign_more_than_squares o m legal.0,
      length-append (map sign_place m.signs) (word_digits w),
      length-map m.signs sign_place,
      few_digits (after_move o m) w legal.1,
    ))

-- the counts decide, else the rest
by_counts : (room : ℕ) (m n : Move) (v w : Word) (r : Ordering) → 0 < m.count → 0 < n.count
    → begun_by room (map sign_place m.signs ++ word_digits v) < 4 ^ room → begun_by room (map sign_place n.signs ++ word_digits w) < 4 ^ room
    → ordering_then (nat_cmp m.count n.count) (tails_cmp room m n v w) ≡ r
    → nat_cmp (begun_by (suc (suc room)) (word_digits (m ∷ v))) (begun_by (suc (suc room)) (word_digits (n ∷ w))) ≡ r
by_counts room m n v w r some some_n small small_n e =
    ap (λ z. nat_cmp z (begun_by (suc (suc room)) (word_digits (n ∷ w)))) (count_digits room m.count (map sign_place m.signs ++ word_digits v))
    ∙ ap (nat_cmp ((m.count - 1) * 4 ^ room + begun_by room (map sign_place m.signs ++ word_digits v)))
    (count_digits room n.count (map sign_place n.signs ++ word_digits w))
    ∙ nat_cmp-first_digit_decides (m.count - 1) (n.count - 1) (4 ^ room) (begun_by room (map sign_place m.signs ++ word_digits v))
    (begun_by room (map sign_place n.signs ++ word_digits w)) small small_n
    ∙ ap (λ z. ordering_then z (tails_cmp room m n v w)) (nat_cmp-pred m.count n.count some some_n)
    ∙ e

-- unlike counts decide the moves too
unlike : (room : ℕ) (m n : Move) (v w : Word) (r z : Ordering) → r ≡ nat_cmp m.count n.count → ((y : Ordering) → ordering_then r y ≡ r)
    → ordering_then (nat_cmp m.count n.count) (tails_cmp room m n v w) ≡ ordering_then (move_cmp m n) z
unlike room m n v w r z e first =
    ap (λ y. ordering_then y (tails_cmp room m n v w)) (sym e) ∙ first (tails_cmp room m n v w)
    ∙ sym (ap (λ y. ordering_then (ordering_then y (slice_cmp sign_cmp m.signs n.signs)) z) (sym e)
    ∙ ap (λ y. ordering_then y z) (first (slice_cmp sign_cmp m.signs n.signs)) ∙ first z)

-- the numbers of two words without their first moves, which have as many signs
abbrev behind : ℕ → Move → Word → Word → Ordering
behind room m v w = nat_cmp (begun_by (room - length m.signs) (word_digits v)) (begun_by (room - length m.signs) (word_digits w))

-- the first moves decide, else the rest
first_moves_decide : (o : Outline) (m n : Move) (v w : Word) (room : ℕ) → AreLegalFrom o (m ∷ v) → AreLegalFrom o (n ∷ w)
    → 4 * order_of (m ∷ v) ≤ suc (suc room) → 4 * order_of (n ∷ w) ≤ suc (suc room)
    → AllByRecursion (λ k. k.count ≤ 16) (m ∷ v) → AllByRecursion (λ k. k.count ≤ 16) (n ∷ w)
    → nat_cmp (begun_by (suc (suc room)) (word_digits (m ∷ v))) (begun_by (suc (suc room)) (word_digits (n ∷ w)))
    ≡ ordering_then (move_cmp m n) (behind room m v w)
first_moves_decide o m n v w room legal legal_w few few_w low low_w =
    by_counts room m n v w (ordering_then (move_cmp m n) (behind room m v w)) legal.0.some legal_w.0.some (digits_low o m v room legal few low)
    (digits_low o n w room legal_w few_w low_w) (cases (lt_or_eq_or_gt m.count n.count))
  where
    cases : (m.count < n.count) ⊎ ((m.count ≡ n.count) ⊎ (n.count < m.count))
        → ordering_then (nat_cmp m.count n.count) (tails_cmp room m n v w) ≡ ordering_then (move_cmp m n) (behind room m v w)
    cases (inl h) = unlike room m n v w Less (behind room m v w) (nat_cmp_is m.count n.count Less h) (λ z. refl)
    cases (inr (inr h)) = unlike room m n v w Greater (behind room m v w) (nat_cmp_is m.count n.count Greater h) (λ z. refl)
    cases (inr (inl h)) =
        ap (ordering_then (nat_cmp m.count n.count)) (
        signs_decide room m.signs n.signs (word_digits v) (word_digits w) (as_many_signs o m n legal.0 legal_w.0 h) (are_digits v low.1) (are_digits w low_w.1)
        (omega (arith, few, at_most_one_sign_more_than_squares o m legal.0, legal.0.some, few_digits (after_move o m) v legal.1, order_more m v))
        (omega (arith, few_w, at_most_one_sign_more_than_squares o n legal_w.0, legal_w.0.some, few_digits (after_move o n) w legal_w.1, order_more n w))
        )
        ∙ sym (ordering_then-assoc (nat_cmp m.count n.count) (slice_cmp sign_cmp m.signs n.signs) (behind room m v w))

-- what the rest of two words has to tell where their first moves are equal
record IsRest (o : Outline) (m n : Move) (v w : Word) (room : ℕ) : Type 0 where
  pub legal_w : AreLegalFrom (after_move o m) w
  pub room_w : 4 * order_of w ≤ room - length m.signs
  pub count : m.count ≡ n.count

rest_of : (o : Outline) (m n : Move) (v w : Word) (room : ℕ) → AreLegalFrom o (n ∷ w) → 4 * order_of (n ∷ w) ≤ suc (suc room) → m ≡ n → IsRest o m n v w room
rest_of o m n v w room legal_w few same = record {
  legal_w = subst (λ (k : Move). AreLegalFrom (after_move o k) w) (sym same) legal_w.1;
  room_w = omega (arith, few, order_more n w, at_most_one_sign_more_than_squares o n legal_w.0, legal_w.0.some, ap (λ (k : Move). length k.signs) same);
  count = ap (λ (k : Move). k.count) same;
}

-- the outline after equal moves is one, so the two words' next moves have as many signs where their counts are equal
words_compare : (o : Outline) (v w : Word) (room : ℕ) → AreLegalFrom o v → AreLegalFrom o w → order_of v ≡ order_of w → 4 * order_of w ≤ room
    → AllByRecursion (λ m. m.count ≤ 16) v → AllByRecursion (λ m. m.count ≤ 16) w
    → nat_cmp (begun_by room (word_digits v)) (begun_by room (word_digits w)) ≡ word_cmp v w
words_compare o [] [] room legal legal_w e few low low_w = sym (nat_cmp_is 0 0 Equal refl)
words_compare o [] (n ∷ w) room legal legal_w e few low low_w = absurd (omega (arith, e, order_more n w, legal_w.0.some))
words_compare o (m ∷ v) [] room legal legal_w e few low low_w = absurd (omega (arith, e, order_more m v, legal.0.some))
words_compare o (m ∷ v) (n ∷ w) zero legal legal_w e few low low_w = absurd (omega (arith, e, few, order_more m v, legal.0.some))
words_compare o (m ∷ v) (n ∷ w) (suc zero) legal legal_w e few low low_w = absurd (omega (arith, e, few, order_more m v, legal.0.some))
words_compare o (m ∷ v) (n ∷ w) (suc (suc room)) legal legal_w e few low low_w =
    first_moves_decide o m n v w room legal legal_w (omega (arith, e, few)) few low low_w
    ∙ rest (move_cmp m n) refl (λ r. words_compare (after_move o m) v w (room - length m.signs) legal.1 r.legal_w
    (omega (arith, e, r.count, order_more m v, order_more n w)) r.room_w low.1 low_w.1)
  where
    rest : (r : Ordering) → move_cmp m n ≡ r → (IsRest o m n v w room → behind room m v w ≡ word_cmp v w)
        → ordering_then (move_cmp m n) (behind room m v w) ≡ ordering_then (move_cmp m n) (word_cmp v w)
    rest Less f again = ap (λ z. ordering_then z (behind room m v w)) f ∙ sym (ap (λ z. ordering_then z (word_cmp v w)) f)
    rest Greater f again = ap (λ z. ordering_then z (behind room m v w)) f ∙ sym (ap (λ z. ordering_then z (word_cmp v w)) f)
    rest Equal f again = ap (ordering_then (move_cmp m n)) (again (rest_of o m n v w room legal_w few (move_same m n f)))

-- ---- words of which one may hang fewer squares

none_below : (w : Word) → word_cmp w [] ≡ Less → ⊥
none_below [] e = cc
none_below (m ∷ w) e = cc

-- what one order says is less, the other does too
abbrev AreLessAlike : Ordering → Ordering → Type 0
AreLessAlike r s = (r ≡ Less) ↔ (s ≡ Less)

then_alike : (r s t : Ordering) → (r ≡ Equal → AreLessAlike s t) → AreLessAlike (ordering_then r s) (ordering_then r t)
then_alike Less s t alike = (λ e. refl, λ e. refl)
then_alike Greater s t alike = (λ e. e, λ e. e)
then_alike Equal s t alike = alike refl

-- the word's number is less than that of a place with at most as many squares exactly where the word is before the place
places_compare : (o : Outline) (place w : Word) (room : ℕ) → AreLegalFrom o place → AreLegalFrom o w → order_of place ≤ order_of w
    → 4 * order_of w ≤ room → AllByRecursion (λ m. m.count ≤ 16) place → AllByRecursion (λ m. m.count ≤ 16) w
    → AreLessAlike (nat_cmp (begun_by room (word_digits w)) (begun_by room (word_digits place))) (word_cmp w place)
places_compare o [] w room legal legal_w e few low low_w =
    (λ f. absurd (omega (arith, lt-from_nat_cmp (begun_by room (word_digits w)) 0 f)), λ f. absurd (none_below w f))
places_compare o (m ∷ place) [] room legal legal_w e few low low_w = absurd (omega (arith, e, order_more m place, legal.0.some))
places_compare o (m ∷ place) (n ∷ w) zero legal legal_w e few low low_w = absurd (omega (arith, few, order_more n w, legal_w.0.some))
places_compare o (m ∷ place) (n ∷ w) (suc zero) legal legal_w e few low low_w = absurd (omega (arith, few, order_more n w, legal_w.0.some))
places_compare o (m ∷ place) (n ∷ w) (suc (suc room)) legal legal_w e few low low_w =
    subst (λ r. AreLessAlike r (word_cmp (n ∷ w) (m ∷ place))) (sym (first_moves_decide o n m w place room legal_w legal few (omega (arith, e, few)) low_w low))
    (then_alike (move_cmp n m) (behind room n w place) (word_cmp w place) (λ f. again (rest_of o n m w place room legal (omega (arith, e, few))
    (move_same n m f))
    (λ r few_w. places_compare (after_move o n) place w (room - length n.signs) r.legal_w legal_w.1
    (omega (arith, e, r.count, order_more m place, order_more n w)) few_w low.1 low_w.1)))
  where
    again : IsRest o n m w place room → (IsRest o n m w place room → 4 * order_of w ≤ room - length n.signs
        → AreLessAlike (behind room n w place) (word_cmp w place)) → AreLessAlike (behind room n w place) (word_cmp w place)
    again r f = f r (omega (arith, few, order_more n w, at_most_one_sign_more_than_squares o n legal_w.0, legal_w.0.some))

-- the numbers of legal words of one order compare as the words do
pub packed_words_compare : PackedWordsCompare
packed_words_compare v w legal legal_w e few = words_compare start v w 64 legal legal_w e (omega arith) (low_counts 16 v (omega (arith, e)))
    (low_counts 16 w few)

-- a place isn't before a word exactly where its number isn't less
pub packed_places_compare : PackedPlacesCompare
packed_places_compare place w legal legal_w e few = (not_greater, no_less)
  where
    alike : AreLessAlike (nat_cmp (packed w) (packed place)) (word_cmp w place)
    alike = places_compare start place w 64 legal legal_w e (omega (arith, few)) (low_counts 16 place (omega (arith, e, few))) (low_counts 16 w few)

    not_greater : (Follows place w → ⊥) → packed place ≤ packed w
    not_greater f = cases (cases_lt (packed w) (packed place))
      where
        cases : (packed w < packed place) ⊎ (packed place ≤ packed w) → packed place ≤ packed w
        cases (inl h) = absurd (f (alike.0 (sym (nat_cmp_is (packed w) (packed place) Less h))))
        cases (inr h) = h

    no_less : packed place ≤ packed w → Follows place w → ⊥
    no_less h f = omega (arith, h, lt-from_nat_cmp (packed w) (packed place) (alike.1 f))
