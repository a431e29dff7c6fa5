-- Words as numbers: words of one order that become less can't do so for ever.
use Rattle.std.specs.List.{AllByRecursion}
use Rattle.std.proofs.Common.{List, [], ap, arith, inl, inr, length, map, refl, subst, suc, zero, ℕ, ◌*◌, ◌++◌, ◌+◌, ◌<◌, ◌∷◌, ◌≡◌, ◌≤◌, ◌⊎◌}
use Rattle.std.proofs.Math.Nat.{mul-le-mul_right}
use Rattle.std.proofs.lemmas.List.{length-append, length-map}
use Rattle.bk_laws.proofs.Powers.{power, some_power}
use Rattle.bk_word.proofs.PlayLaws.{side_has_one_sign_at_most}
use Rattle.bk_word.proofs.StoredBytes.{order_more}
use Rattle.bk_word.specs.Outline.{Outline, has_left_wall, has_right_wall}
use Rattle.bk_word.specs.Play.{AreLegalFrom, after_move}
use Rattle.bk_word.specs.Word.{Move, Word, order_of, sign_place}
use Rattle.bk_word.specs.declared.Sign.{Sign}
use Rattle.bk_word.specs.declared.Sign.TheVariants.{Above, Even, Under}
use Rattle.bk_layout.proofs.Lists.Drops.{Drops, IsLess}

-- so many digits to a base as one number
abbrev pub code : ℕ → ℕ → List ℕ → ℕ
code b zero xs = 0
code b (suc n) [] = 0
code b (suc n) (x ∷ xs) = suc x * power b n + code b n xs

-- each is below the base, by two at least
abbrev pub AreDigits : ℕ → List ℕ → Type 0
AreDigits b xs = AllByRecursion (λ x. x + 2 ≤ b) xs

code_low : (b n : ℕ) (xs : List ℕ) → 0 < b → AreDigits b xs → code b n xs < power b n
code_low b zero xs h d = omega arith
code_low b (suc n) [] h d = some_power b (suc n) h
code_low b (suc n) (x ∷ xs) h d = omega (arith, code_low b n xs h d.1, mul-le-mul_right {m = suc (suc x)} {n = b} (power b n) (omega (arith, d.0)))

-- the first digit in which they differ is less
abbrev pub AreLess : List ℕ → List ℕ → Type 0
AreLess [] ys = ⊥
AreLess (x ∷ xs) [] = ⊥
AreLess (x ∷ xs) (y ∷ ys) = (x < y) ⊎ ((x ≡ y) × AreLess xs ys)

-- lesser digits make a lesser number
pub code_less : (b n : ℕ) (xs ys : List ℕ) → 0 < b → AreDigits b xs → length ys ≤ n → AreLess xs ys → code b n xs < code b n ys
code_less b n [] ys h d few l = absurd l
code_less b n (x ∷ xs) [] h d few l = absurd l
code_less b zero (x ∷ xs) (y ∷ ys) h d few l = absurd (omega (arith, few))
code_less b (suc n) (x ∷ xs) (y ∷ ys) h d few (inl l) =
    omega (arith, code_low b n xs h d.1, mul-le-mul_right {m = suc (suc x)} {n = suc y} (power b n) (omega (arith, l)))
code_less b (suc n) (x ∷ xs) (y ∷ ys) h d few (inr (e, l)) =
    omega (arith, code_less b n xs ys h d.1 (omega (arith, few)) l, ap (λ (z : ℕ). suc z * power b n) e)

-- ---- the digits of a word

-- a word as digits: the count of each move and the places of its signs
abbrev pub digits : Word → List ℕ
digits [] = []
digits (m ∷ w) = (m.count ∷ map sign_place m.signs) ++ digits w

place_low : (g : Sign) → sign_place g ≤ 2
place_low Above = omega arith
place_low Even = omega arith
place_low Under = omega arith

append_digits : (b : ℕ) (xs ys : List ℕ) → AreDigits b xs → AreDigits b ys → AreDigits b (xs ++ ys)
append_digits b [] ys d e = e
append_digits b (x ∷ xs) ys d e = (d.0, append_digits b xs ys d.1 e)

sign_digits : (b : ℕ) (signs : List Sign) → 4 ≤ b → AreDigits b (map sign_place signs)
sign_digits b [] h = tt
sign_digits b (g ∷ signs) h = (omega (arith, h, place_low g), sign_digits b signs h)

-- the digits of a word are below a base that is greater than the order
pub are_digits : (b : ℕ) (w : Word) → 4 ≤ b → order_of w + 2 ≤ b → AreDigits b (digits w)
are_digits b [] h e = tt
are_digits b (m ∷ w) h e = append_digits b (m.count ∷ map sign_place m.signs) (digits w)
    (omega (arith, e, order_more m w), sign_digits b m.signs h) (are_digits b w h (omega (arith, e, order_more m w)))

-- a legal word has at most three times as many as squares
pub few_digits : (o : Outline) (w : Word) → AreLegalFrom o w → length (digits w) ≤ order_of w + (order_of w + order_of w)
few_digits o [] legal = omega arith
few_digits o (m ∷ w) legal = omega (
  arith,
  few_digits (after_move o m) w legal.1,
  order_more m w,
  legal.0.some,
  legal.0.signs,
  length-append (m.count ∷ map sign_place m.signs) (digits w),
  length-map m.signs sign_place,
  side_has_one_sign_at_most (has_left_wall o),
  side_has_one_sign_at_most (has_right_wall o),
)

same_front : (xs ys zs : List ℕ) → AreLess ys zs → AreLess (xs ++ ys) (xs ++ zs)
same_front [] ys zs l = l
same_front (x ∷ xs) ys zs l = inr (refl, same_front xs ys zs l)

dropped : (g h : List Sign) (xs ys : List ℕ) → Drops g h → AreLess (map sign_place g ++ xs) (map sign_place h ++ ys)
dropped [] h xs ys d = absurd d
dropped (a ∷ g) [] xs ys d = absurd d
dropped (a ∷ g) (b ∷ h) xs ys (inl (e, f)) = inl (omega (arith, ap sign_place e, ap sign_place f))
dropped (a ∷ g) (b ∷ h) xs ys (inr (e, d)) = inr (ap sign_place e, dropped g h xs ys d)

-- a lesser word has lesser digits
pub less_digits : (v w : Word) → IsLess v w → AreLess (digits v) (digits w)
less_digits [] w l = absurd l
less_digits (a ∷ v) [] l = absurd l
less_digits (a ∷ v) (b ∷ w) (inl (e, d)) = inr (e, dropped a.signs b.signs (digits v) (digits w) d)
less_digits (a ∷ v) (b ∷ w) (inr (e, l)) =
    subst (λ (z : Move). AreLess (digits (a ∷ v)) (digits (z ∷ w))) e (same_front (a.count ∷ map sign_place a.signs) (digits v) (digits w) (less_digits v w l))
