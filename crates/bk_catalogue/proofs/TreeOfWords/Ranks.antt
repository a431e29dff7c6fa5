-- A number for each word of few and short moves, which rises with the word, so that a walk ends.
use Rattle.std.specs.Cmp.Lexicographic.{slice_cmp}
use Rattle.std.specs.List.{AllByRecursion}
use Rattle.std.specs.Ordering.{ordering_then}
use Rattle.std.specs.declared.cmp.Ordering.{Ordering}
use Rattle.std.specs.declared.cmp.Ordering.TheVariants.{Equal, Greater, Less}
use Rattle.std.proofs.Common.{List, [], ap, arith, inl, inr, length, map, refl, suc, sym, zero, ℕ, ◌*◌, ◌++◌, ◌+◌, ◌-◌, ◌<◌, ◌∙◌}
use Rattle.std.proofs.Common.{◌∷◌, ◌≡◌, ◌≤◌}
use Rattle.std.proofs.Math.Nat.{mul-le-mul_right}
use Rattle.std.proofs.lemmas.List.{length-append}
use Rattle.bk_laws.proofs.AllOfLists.{all_append}
use Rattle.bk_laws.proofs.Powers.{power, some_power}
use Rattle.bk_laws.proofs.Orderings.{eq-from_equal_is_nat_cmp, greater-is_not_less, lt-from_nat_cmp}
use Rattle.bk_word.proofs.PlayLaws.{side_has_one_sign_at_most}
use Rattle.bk_word.specs.Outline.{Outline, has_left_wall, has_right_wall, start}
use Rattle.bk_word.specs.Play.{AreLegalFrom, IsLegal, after_move}
use Rattle.bk_word.specs.Word.{Follows, Move, Word, move_cmp, order_of, sign_cmp, sign_place}
use Rattle.bk_word.specs.declared.Sign.{Sign}
use Rattle.bk_word.specs.declared.Sign.TheVariants.{Above, Even, Under}
use Rattle.bk_word.proofs.StoredBytes.{order_more}
use Rattle.bk_word.proofs.WordOrder.{move_same}
use Rattle.bk_catalogue.proofs.TreeOfWords.MoveOrder.{IsLess, less_to, signs_cmp}

-- the number of these digits, of which the first is the greatest place: each place says that it is there, and its digit
abbrev number : ℕ → ℕ → List ℕ → ℕ
number base zero digits = 0
number base (suc k) [] = 0
number base (suc k) (d ∷ digits) = (1 + d) * power base k + number base k digits

module _ (A : Type 0) (order : A → A → Ordering) (rank : A → ℕ) (base : ℕ) (some : 0 < base) (P : A → Type 0) (fits : (a : A) → P a → rank a + 2 ≤ base)
    (up : (a b : A) → P a → P b → order a b ≡ Less → rank a < rank b) (level : (a b : A) → order a b ≡ Equal → rank a ≡ rank b) where
  below : (k : ℕ) (xs : List A) → AllByRecursion P xs → number base k (map rank xs) < power base k
  below zero xs all = omega arith
  below (suc k) [] all = some_power base (suc k) some
  below (suc k) (a ∷ xs) all = omega (arith, below k xs all.1, mul-le-mul_right {m = rank a + 2} {n = base} (power base k) (fits a all.0))

  rises : (k : ℕ) (xs ys : List A) → AllByRecursion P xs → AllByRecursion P ys → length ys ≤ k → slice_cmp order xs ys ≡ Less
      → number base k (map rank xs) < number base k (map rank ys)
  rises k [] [] p q few e = absurd (cc)
  rises k (a ∷ xs) [] p q few e = absurd (cc)
  rises zero xs (b ∷ ys) p q few e = absurd (omega arith)
  rises (suc k) [] (b ∷ ys) p q few e = omega (arith, some_power base k some)
  rises (suc k) (a ∷ xs) (b ∷ ys) p q few e = cases (order a b) refl (λ f. rises k xs ys p.1 q.1 (omega arith) f)
    where
      cases : (r : Ordering) → order a b ≡ r → (slice_cmp order xs ys ≡ Less → number base k (map rank xs) < number base k (map rank ys))
          → (1 + rank a) * power base k + number base k (map rank xs) < (1 + rank b) * power base k + number base k (map rank ys)
      cases Less f g = omega (arith, below k xs p.1, mul-le-mul_right {m = rank a + 1} {n = rank b} (power base k) (omega (arith, up a b p.0 q.0 f)))
      cases Equal f g = omega (arith, g (sym (ap (λ z. ordering_then z (slice_cmp order xs ys)) f) ∙ e), ap (λ r. (1 + r) * power base k) (level a b f))
      cases Greater f g = absurd (greater-is_not_less (sym (ap (λ z. ordering_then z (slice_cmp order xs ys)) f) ∙ e))

sign_up : (a b : Sign) → sign_cmp a b ≡ Less → sign_place a < sign_place b
sign_up a b = lt-from_nat_cmp (sign_place a) (sign_place b)

sign_level : (a b : Sign) → sign_cmp a b ≡ Equal → sign_place a ≡ sign_place b
sign_level a b e = eq-from_equal_is_nat_cmp (sign_place a) (sign_place b) (sym e)

sign_fits : (s : Sign) → sign_place s + 2 ≤ 4
sign_fits Above = omega arith
sign_fits Even = omega arith
sign_fits Under = omega arith

all_signs : (signs : List Sign) → AllByRecursion (λ s. Unit {0}) signs
all_signs [] = tt
all_signs (s ∷ signs) = (tt, all_signs signs)

-- a move of few squares and few signs
pub record IsSmallMove (m : Move) : Type 0 where
  pub count : m.count ≤ 17
  pub signs : length m.signs ≤ 18

signs_number : List Sign → ℕ
signs_number signs = number 4 18 (map sign_place signs)

signs_limit : ℕ
signs_limit = power 4 18

signs_below : (signs : List Sign) → signs_number signs < signs_limit
unfolding signs_number signs_limit
signs_below signs = below Sign sign_cmp sign_place 4 (omega arith) (λ s. Unit {0}) (λ s p. sign_fits s) (λ a b p q e. sign_up a b e)
    sign_level 18 signs (all_signs signs)

signs_rise : (a b : List Sign) → length b ≤ 18 → signs_cmp a b ≡ Less → signs_number a < signs_number b
unfolding signs_number
signs_rise a b few e = rises Sign sign_cmp sign_place 4 (omega arith) (λ s. Unit {0}) (λ s p. sign_fits s) (λ a b p q e. sign_up a b e)
    sign_level 18 a b (all_signs a) (all_signs b) few e

move_rank : Move → ℕ
move_rank m = m.count * signs_limit + signs_number m.signs

move_limit : ℕ
move_limit = 18 * signs_limit + 2

move_fits : (m : Move) → IsSmallMove m → move_rank m + 2 ≤ move_limit
unfolding move_rank move_limit
move_fits m h = omega (arith, signs_below m.signs, mul-le-mul_right {m = m.count} {n = 17} signs_limit h.count)

move_up : (m n : Move) → IsSmallMove m → IsSmallMove n → move_cmp m n ≡ Less → move_rank m < move_rank n
unfolding move_rank
move_up m n g h e = cases (less_to m n e)
  where
    cases : IsLess m n → m.count * signs_limit + signs_number m.signs < n.count * signs_limit + signs_number n.signs
    cases (inl f) = omega (arith, signs_below m.signs, mul-le-mul_right {m = m.count + 1} {n = n.count} signs_limit (omega arith))
    cases (inr (f, k)) = omega (arith, signs_rise m.signs n.signs h.signs k, ap (λ z. z * signs_limit) f)

word_number : Word → ℕ
word_number w = number move_limit 18 (map move_rank w)

word_limit : ℕ
word_limit = power move_limit 18

-- how far a word is from the end
pub left_after : Word → ℕ
left_after w = word_limit - word_number w

some_limit : 0 < move_limit
unfolding move_limit
some_limit = omega arith

word_below : (w : Word) → AllByRecursion IsSmallMove w → word_number w < word_limit
unfolding word_number word_limit
word_below w all = below Move move_cmp move_rank move_limit some_limit IsSmallMove move_fits move_up (λ a b e. ap move_rank (move_same a b e)) 18 w all

word_rises : (v w : Word) → AllByRecursion IsSmallMove v → AllByRecursion IsSmallMove w → length w ≤ 18 → Follows w v → word_number v < word_number w
unfolding word_number
word_rises v w p q few e = rises Move move_cmp move_rank move_limit some_limit IsSmallMove move_fits move_up
    (λ a b e. ap move_rank (move_same a b e)) 18 v w p q few e

-- of a later word fewer words are left
pub less_left : (v w : Word) → AllByRecursion IsSmallMove v → AllByRecursion IsSmallMove w → length w ≤ 18 → Follows w v → left_after w < left_after v
unfolding left_after
less_left v w p q few e = omega (arith, word_rises v w p q few e, word_below w q)

-- the moves of a legal word of few squares are few and small
pub record IsSmallWord (k : ℕ) (w : Word) : Type 0 where
  pub moves : AllByRecursion IsSmallMove w
  pub few : length w ≤ k

-- legal words of few squares have small moves
pub small_from : (o : Outline) (w : Word) (k : ℕ) → AreLegalFrom o w → order_of w ≤ k → k ≤ 16 → IsSmallWord k w
small_from o [] k l h b = record { moves = tt; few = omega arith }
small_from o (m ∷ w) k l h b = onto (small_from (after_move o m) w (k - m.count) l.1 (omega (arith, order_more m w)) (omega arith))
  where
    onto : IsSmallWord (k - m.count) w → IsSmallWord k (m ∷ w)
    onto s = let some = (l.0).some in let signs = (l.0).signs in record {
      moves = (
        record {
          count = omega (arith, order_more m w);
          signs =
              omega (arith, order_more m w, side_has_one_sign_at_most (has_left_wall o), side_has_one_sign_at_most (has_right_wall o));
        },
        s.moves,
      );
      few = omega (arith, s.few, order_more m w);
    }

-- a place behind a legal word of few squares has small moves
pub small_place : (front : Word) (x : Move) → IsLegal front → order_of front ≤ 16 → IsSmallMove x
    → AllByRecursion IsSmallMove (front ++ x ∷ []) × (length (front ++ x ∷ []) ≤ 18)
small_place front x legal few small = (all_append IsSmallMove front (x ∷ []) s.moves (small, tt), omega (arith, s.few, length-append front (x ∷ [])))
  where
    s : IsSmallWord 16 front
    s = small_from start front 16 legal few (omega arith)
