-- How many words an order has: a number that falls as the words rise, so that an ascending list of them is short.
use Rattle.std.specs.Cmp.Lexicographic.{slice_cmp}
use Rattle.std.specs.List.{AllByRecursion}
use Rattle.std.specs.Ordering.{ordering_then}
use Rattle.std.specs.declared.cmp.Ordering.{Ordering}
use Rattle.std.specs.declared.cmp.Ordering.TheVariants.{Equal, Greater, Less}
use Rattle.std.proofs.Common.{List, [], ap, arith, inl, inr, length, refl, subst, suc, sym, ℕ, ◌*◌, ◌+◌, ◌-◌, ◌<◌, ◌^◌, ◌∙◌, ◌∷◌, ◌≡◌, ◌≤◌, ◌⊎◌}
use Rattle.std.proofs.Math.Nat.{mul-le-mul_right}
use Rattle.bk_laws.proofs.Powers.{power, power-cut, power_up, some_power}
use Rattle.bk_laws.proofs.Multiples.{power-falls_with_count, power-four_times_fits}
use Rattle.bk_lay.proofs.WordPlay.{tiling_word_is_complete}
use Rattle.bk_word.proofs.PlayLaws.{side_has_one_sign_at_most}
use Rattle.bk_word.specs.Outline.{IsLegalMove, Outline, has_left_wall, has_right_wall, start}
use Rattle.bk_word.specs.Play.{AreLegalFrom, after_move}
use Rattle.bk_word.specs.Word.{Move, Word, move_cmp, order_of, sign_cmp, sign_place, word_cmp}
use Rattle.bk_word.specs.declared.Class.{Class}
use Rattle.bk_word.specs.declared.Sign.{Sign}
use Rattle.bk_word.specs.declared.Sign.TheVariants.{Above, Even, Under}
use Rattle.bk_word.proofs.StoredBytes.{order_more}
use Rattle.bk_word.proofs.WordOrder.{move_same}
use Rattle.bk_catalogue.specs.Catalogue.{AreAscending, Entry, IsEntry}
use Rattle.bk_catalogue.proofs.TreeOfWords.MoveOrder.{less_to}

-- how many lists of signs of the same length come after these
signs_left : List Sign → ℕ
signs_left [] = 0
signs_left (s ∷ signs) = (2 - sign_place s) * power 3 (length signs) + signs_left signs

signs_below : (signs : List Sign) → signs_left signs < power 3 (length signs)
unfolding signs_left
signs_below [] = omega arith
signs_below (Above ∷ signs) = omega (arith, signs_below signs)
signs_below (Even ∷ signs) = omega (arith, signs_below signs)
signs_below (Under ∷ signs) = omega (arith, signs_below signs)

one_shorter : (s t : Sign) (a b : List Sign) → length (s ∷ a) ≡ length (t ∷ b) → length a ≡ length b
one_shorter s t a b e = omega arith

signs_fall : (a b : List Sign) → length a ≡ length b → slice_cmp sign_cmp a b ≡ Less → signs_left b < signs_left a
unfolding signs_left
signs_fall [] [] l e = absurd (cc)
signs_fall [] (t ∷ b) l e = absurd (omega arith)
signs_fall (s ∷ a) [] l e = absurd (omega arith)
signs_fall (Above ∷ a) (Above ∷ b) l e = omega (arith, signs_fall a b (one_shorter Above Above a b l) e, ap (power 3) (one_shorter Above Above a b l))
signs_fall (Above ∷ a) (Even ∷ b) l e = omega (arith, signs_below b, ap (power 3) (one_shorter Above Even a b l))
signs_fall (Above ∷ a) (Under ∷ b) l e = omega (arith, signs_below b, ap (power 3) (one_shorter Above Under a b l))
signs_fall (Even ∷ a) (Above ∷ b) l e = absurd (cc)
signs_fall (Even ∷ a) (Even ∷ b) l e = omega (arith, signs_fall a b (one_shorter Even Even a b l) e, ap (power 3) (one_shorter Even Even a b l))
signs_fall (Even ∷ a) (Under ∷ b) l e = omega (arith, signs_below b, ap (power 3) (one_shorter Even Under a b l))
signs_fall (Under ∷ a) (Above ∷ b) l e = absurd (cc)
signs_fall (Under ∷ a) (Even ∷ b) l e = absurd (cc)
signs_fall (Under ∷ a) (Under ∷ b) l e = omega (arith, signs_fall a b (one_shorter Under Under a b l) e, ap (power 3) (one_shorter Under Under a b l))

-- with the words that begin with a greater count before those with these signs or greater ones
abbrev part : ℕ → Move → ℕ
part n m = (power 3 m.count + signs_left m.signs) * power 12 (n - m.count)

-- at most so many words of n squares come from this one on
left : ℕ → Word → ℕ
left n [] = 1
left n (m ∷ w) = part n m + left (n - m.count) w

some_left : (n : ℕ) (w : Word) → 0 < left n w
unfolding left
some_left n [] = omega arith
some_left n (m ∷ w) = omega (arith, some_left (n - m.count) w)

-- the digits of a move's signs
move_below : (o : Outline) (m : Move) → IsLegalMove o m → power 3 m.count + signs_left m.signs + 1 ≤ 4 * power 3 m.count
move_below o m legal =
    let signs = legal.signs in
    let few : length m.signs ≤ suc m.count = omega (arith, signs, side_has_one_sign_at_most (has_left_wall o), side_has_one_sign_at_most (has_right_wall o)) in
    omega (arith, signs_below m.signs, power_up 3 (length m.signs) (suc m.count) (omega arith) few)

-- what is left from a move on
step_below : (o : Outline) (n : ℕ) (m : Move) (rest : ℕ) → IsLegalMove o m → rest ≤ power 12 (n - m.count)
    → part n m + rest ≤ 4 * power 3 m.count * power 12 (n - m.count)
step_below o n m rest legal few =
    omega (
      arith,
      mul-le-mul_right {m = power 3 m.count + signs_left m.signs + 1} {n = 4 * power 3 m.count} (power 12 (n - m.count)) (move_below o m legal),
      few,
    )

left_below : (o : Outline) (n : ℕ) (w : Word) → AreLegalFrom o w → order_of w ≤ n → left n w ≤ power 12 n
unfolding left
left_below o n [] legal few = some_power 12 n (omega arith)
left_below o n (m ∷ w) legal few =
    let some = (legal.0).some in
    let more : order_of w ≤ n - m.count = omega (arith, order_more m w) in
    let within : m.count ≤ n = omega (arith, order_more m w) in
    omega (
      arith,
      step_below o n m (left (n - m.count) w) legal.0 (left_below (after_move o m) (n - m.count) w legal.1 more),
      mul-le-mul_right {m = 4 * power 3 m.count} {n = power 12 m.count} (power 12 (n - m.count)) (power-four_times_fits m.count some),
      power-cut 12 m.count n within,
    )

-- one word after another, from the same state and of the same order, leaves less
step_falls : (o : Outline) (n : ℕ) (m k : Move) (v w : Word) → AreLegalFrom o (m ∷ v) → AreLegalFrom o (k ∷ w) → order_of (m ∷ v) ≡ n → order_of (k ∷ w) ≡ n
    → (AreLegalFrom (after_move o m) w → order_of w ≡ n - m.count → word_cmp v w ≡ Less → left (n - m.count) w < left (n - m.count) v)
    → (r : Ordering) → move_cmp m k ≡ r → ordering_then (move_cmp m k) (word_cmp v w) ≡ Less → left n (k ∷ w) < left n (m ∷ v)
unfolding left
step_falls o n m k v w p q a b more Less f e = by_less (less_to m k f)
  where
    under : left (n - k.count) w ≤ power 12 (n - k.count)
    under = left_below (after_move o k) (n - k.count) w q.1 (omega (arith, order_more k w, b))

    by_less : (m.count < k.count) ⊎ ((m.count ≡ k.count) × (slice_cmp sign_cmp m.signs k.signs ≡ Less))
        → part n k + left (n - k.count) w < part n m + left (n - m.count) v
    by_less (inl less) = omega (
      arith,
      step_below o n k (left (n - k.count) w) q.0 under,
      power-falls_with_count n m.count k.count less (omega (arith, order_more k w, b)),
      some_left (n - m.count) v,
    )
    by_less (inr (same, signs)) =
        let x = (p.0).signs in
        let y = (q.0).signs in
        let fall : signs_left k.signs < signs_left m.signs = signs_fall m.signs k.signs (omega arith) signs in
        let threes : power 3 m.count ≡ power 3 k.count = ap (power 3) same in
        let twelves : power 12 (n - m.count) ≡ power 12 (n - k.count) = ap (λ z. power 12 (n - z)) same in
        omega (
          arith,
          under,
          twelves,
          mul-le-mul_right {m = power 3 k.count + signs_left k.signs + 1} {n = power 3 m.count + signs_left m.signs} (power 12 (n - m.count))
              (omega (arith, fall, threes)),
          ap (λ z. (power 3 k.count + signs_left k.signs) * z) twelves,
          some_left (n - m.count) v,
        )
step_falls o n m k v w p q a b more Equal f e =
    let same : m ≡ k = move_same m k f in
    let rest : word_cmp v w ≡ Less = sym (ap (λ z. ordering_then z (word_cmp v w)) f) ∙ e in
    subst (λ (x : Move). AreLegalFrom (after_move o x) w → order_of w ≡ n - x.count → part n x + left (n - x.count) w < part n m + left (n - m.count) v) same
    (λ l c. omega (arith, more l c rest)) q.1 (omega (arith, order_more k w, b))
step_falls o n m k v w p q a b more Greater f e = let h : Greater ≡ Less = sym (ap (λ z. ordering_then z (word_cmp v w)) f) ∙ e in absurd (cc)

left_falls : (o : Outline) (n : ℕ) (v w : Word) → AreLegalFrom o v → AreLegalFrom o w → order_of v ≡ n → order_of w ≡ n → word_cmp v w ≡ Less
    → left n w < left n v
left_falls o n [] [] p q a b e = absurd (cc)
left_falls o n [] (k ∷ w) p q a b e = let some = (q.0).some in absurd (omega (arith, order_more k w, a, b))
left_falls o n (m ∷ v) [] p q a b e = absurd (cc)
left_falls o n (m ∷ v) (k ∷ w) p q a b e =
    step_falls o n m k v w p q a b (λ l c h. left_falls (after_move o m) (n - m.count) v w p.1 l (omega (arith, order_more m v, a)) c h) (move_cmp m k) refl e

-- the word of an entry
abbrev IsWhole : ℕ → Word → Type 0
IsWhole n w = AreLegalFrom start w × (order_of w ≡ n)

whole : (n : ℕ) (class : Class) (e : Entry) → IsEntry n class e → IsWhole n e.word
whole n class e is =
    let both = tiling_word_is_complete e.tiling e.word (is.member).tiling is.word in
    ((both.0).legal, both.1 ∙ (is.member).order)

short : (n : ℕ) (class : Class) (e : Entry) (entries : List Entry) → AllByRecursion (IsEntry n class) (e ∷ entries) → AreAscending (e ∷ entries)
    → length entries < left n e.word
short n class e [] all up = some_left n e.word
short n class e (f ∷ entries) all up =
    let v = whole n class e all.0 in
    let w = whole n class f (all.1).0 in
    omega (arith, short n class f entries all.1 up.1, left_falls start n e.word f.word v.0 w.0 v.1 w.1 (up.0).0)

sixteen : power 12 16 ≡ 184884258895036416
sixteen = refl

-- entries of an order of at most 16, ascending, are fewer than 2^64
pub few_entries : (n : ℕ) (class : Class) (entries : List Entry) → n ≤ 16 → AllByRecursion (IsEntry n class) entries → AreAscending entries
    → length entries + 1 < 2 ^ 64
few_entries n class [] few all up = omega arith
few_entries n class (e ∷ entries) few all up =
    let w = whole n class e all.0 in
    let legal : AreLegalFrom start e.word = w.0 in
    let order : order_of e.word ≤ n = omega (arith, w.1) in
    omega (arith, short n class e entries all up, left_below start n e.word legal order, power_up 12 n 16 (omega arith) few, sixteen)
