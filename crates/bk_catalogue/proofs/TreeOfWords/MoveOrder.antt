-- The order of moves: which moves lie between one and the next.
use Rattle.std.specs.Cmp.{nat_cmp_is}
use Rattle.std.specs.Cmp.Lexicographic.{slice_cmp}
use Rattle.std.specs.Ordering.{nat_cmp, ordering_then}
use Rattle.std.specs.declared.cmp.Ordering.{Ordering}
use Rattle.std.specs.declared.cmp.Ordering.TheVariants.{Equal, Greater, Less}
use Rattle.std.proofs.Common.{List, None, Option, Some, [], ap, arith, inl, inr, length, refl, suc, sym, ℕ, ◌++◌, ◌+◌, ◌<◌, ◌∙◌, ◌∷◌, ◌≡◌, ◌≤◌, ◌⊎◌}
use Rattle.bk_laws.proofs.NumberOrder.{lt_or_eq_or_gt}
use Rattle.bk_laws.proofs.Orderings.{greater-is_not_less}
use Rattle.bk_word.specs.Word.{Move, move_cmp, sign_cmp}
use Rattle.bk_word.specs.declared.Sign.{Sign}
use Rattle.bk_word.specs.declared.Sign.TheVariants.{Above, Even, Under}
use Rattle.bk_catalogue.specs.NextMove.{IsMoveFrom, move_after, move_with_signs, raised, signs_after}

-- signs compare as lists do
abbrev pub signs_cmp : List Sign → List Sign → Ordering
signs_cmp a b = slice_cmp sign_cmp a b

-- signs that begin with these
pub record Begins (front signs : List Sign) : Type 0 where
  pub rest : List Sign
  pub is : signs ≡ front ++ rest

begins-cons : (s : Sign) (front signs : List Sign) → Begins front signs → Begins (s ∷ front) (s ∷ signs)
begins-cons s front signs b = record { rest = b.rest; is = ap (λ l. s ∷ l) b.is }

-- the signs are before the bound, where there is one
abbrev IsBelow : List Sign → Option (List Sign) → Type 0
IsBelow b None = Unit {0}
IsBelow b (Some next) = signs_cmp b next ≡ Less

-- no signs are before none
pub none_below : (a : List Sign) → signs_cmp a [] ≡ Less → ⊥
none_below [] e = cc
none_below (s ∷ a) e = cc

one_more : (s : Sign) (a b : List Sign) (r : Option (List Sign)) → ((c : List Sign) → (signs_cmp c a ≡ Less → ⊥) → IsBelow c r → Begins a c)
    → (signs_cmp b (s ∷ a) ≡ Less → ⊥) → IsBelow b (raised s r) → Begins (s ∷ a) b
one_more Above a [] r f from to = absurd (from refl)
one_more Even a [] r f from to = absurd (from refl)
one_more Under a [] r f from to = absurd (from refl)
one_more Above a (Above ∷ b) (Some n) f from to = begins-cons Above a b (f b from to)
one_more Above a (Above ∷ b) None f from to = begins-cons Above a b (f b from tt)
one_more Above a (Even ∷ b) (Some n) f from to = absurd (greater-is_not_less to)
one_more Above a (Even ∷ b) None f from to = absurd (none_below b to)
one_more Above a (Under ∷ b) (Some n) f from to = absurd (greater-is_not_less to)
one_more Above a (Under ∷ b) None f from to = absurd (greater-is_not_less to)
one_more Even a (Above ∷ b) r f from to = absurd (from refl)
one_more Even a (Even ∷ b) (Some n) f from to = begins-cons Even a b (f b from to)
one_more Even a (Even ∷ b) None f from to = begins-cons Even a b (f b from tt)
one_more Even a (Under ∷ b) (Some n) f from to = absurd (greater-is_not_less to)
one_more Even a (Under ∷ b) None f from to = absurd (none_below b to)
one_more Under a (Above ∷ b) r f from to = absurd (from refl)
one_more Under a (Even ∷ b) r f from to = absurd (from refl)
one_more Under a (Under ∷ b) (Some n) f from to = begins-cons Under a b (f b from to)
one_more Under a (Under ∷ b) None f from to = begins-cons Under a b (f b from tt)

-- what is not before these signs, and is before the next ones, begins with them
signs_between : (a b : List Sign) → (signs_cmp b a ≡ Less → ⊥) → IsBelow b (signs_after a) → Begins a b
signs_between [] b from to = record { rest = b; is = refl }
signs_between (s ∷ a) b from to = one_more s a b (signs_after a) (λ c f t. signs_between a c f t) from to

one_more_below : (s : Sign) (b : List Sign) (r : Option (List Sign)) → IsBelow b r → IsBelow (s ∷ b) (raised s r)
one_more_below Above b (Some n) h = h
one_more_below Even b (Some n) h = h
one_more_below Under b (Some n) h = h
one_more_below Above b None h = refl
one_more_below Even b None h = refl
one_more_below Under b None h = tt

-- what begins with signs is before the next ones
begun_below : (a rest : List Sign) → IsBelow (a ++ rest) (signs_after a)
begun_below [] rest = tt
begun_below (s ∷ a) rest = one_more_below s (a ++ rest) (signs_after a) (begun_below a rest)

-- the next signs, where there are some, are at most so many
abbrev pub IsShort : ℕ → Option (List Sign) → Type 0
IsShort k None = Unit {0}
IsShort k (Some next) = length next ≤ k

one_more_short : (s : Sign) (k : ℕ) (r : Option (List Sign)) → IsShort k r → IsShort (suc k) (raised s r)
one_more_short Above k (Some n) h = omega arith
one_more_short Even k (Some n) h = omega arith
one_more_short Under k (Some n) h = omega arith
one_more_short Above k None h = omega arith
one_more_short Even k None h = omega arith
one_more_short Under k None h = tt

-- the next signs after some, where there are any, are no more than those
pub next_short : (a : List Sign) → IsShort (length a) (signs_after a)
next_short [] = tt
next_short (s ∷ a) = one_more_short s (length a) (signs_after a) (next_short a)

-- a move is before another by its count, or by its signs where the counts are equal
abbrev pub IsLess : Move → Move → Type 0
IsLess m n = (m.count < n.count) ⊎ ((m.count ≡ n.count) × (signs_cmp m.signs n.signs ≡ Less))

-- a move before another has a lesser count, or the same and lesser signs
pub less_to : (m n : Move) → move_cmp m n ≡ Less → IsLess m n
less_to m n e = cases (lt_or_eq_or_gt m.count n.count)
  where
    by : (r : Ordering) → r ≡ nat_cmp m.count n.count → ordering_then r (signs_cmp m.signs n.signs) ≡ Less
    by r f = ap (λ z. ordering_then z (signs_cmp m.signs n.signs)) f ∙ e

    cases : (m.count < n.count) ⊎ ((m.count ≡ n.count) ⊎ (n.count < m.count)) → IsLess m n
    cases (inl h) = inl h
    cases (inr (inl h)) = inr (h, by Equal (nat_cmp_is m.count n.count Equal h))
    cases (inr (inr h)) = absurd (greater-is_not_less (by Greater (nat_cmp_is m.count n.count Greater h)))

-- a move of a lesser count, or of one count and lesser signs, is before another
pub less_from : (m n : Move) → IsLess m n → move_cmp m n ≡ Less
less_from m n (inl h) = ap (λ z. ordering_then z (signs_cmp m.signs n.signs)) (sym (nat_cmp_is m.count n.count Less h))
less_from m n (inr (h, e)) = ap (λ z. ordering_then z (signs_cmp m.signs n.signs)) (sym (nat_cmp_is m.count n.count Equal h)) ∙ e

-- a move that is not before this one, and is before the next, has its count, and its signs begin with these
pub moves_between : (m other : Move) → IsMoveFrom m other → move_cmp other (move_after m) ≡ Less → (other.count ≡ m.count) × Begins m.signs other.signs
moves_between m other from to =
    cases (signs_after m.signs) (signs_between m.signs other.signs) (less_to other (move_after m) to) (lt_or_eq_or_gt other.count m.count)
  where
    not_less : other.count ≡ m.count → signs_cmp other.signs m.signs ≡ Less → ⊥
    not_less e f = from (less_from other m (inr (e, f)))

    cases : (r : Option (List Sign)) → ((signs_cmp other.signs m.signs ≡ Less → ⊥) → IsBelow other.signs r → Begins m.signs other.signs)
        → IsLess other (move_with_signs m.count r) → (other.count < m.count) ⊎ ((other.count ≡ m.count) ⊎ (m.count < other.count))
        → (other.count ≡ m.count) × Begins m.signs other.signs
    cases r f less (inl h) = absurd (from (less_from other m (inl h)))
    cases (Some n) f (inl h) (inr (inl e)) = absurd (omega arith)
    cases (Some n) f (inr (e, b)) (inr (inl k)) = (k, f (not_less k) b)
    cases None f (inl h) (inr (inl e)) = (e, f (not_less e) tt)
    cases None f (inr (e, b)) (inr (inl k)) = absurd (omega arith)
    cases (Some n) f (inl h) (inr (inr k)) = absurd (omega arith)
    cases (Some n) f (inr (e, b)) (inr (inr k)) = absurd (omega arith)
    cases None f (inl h) (inr (inr k)) = absurd (omega arith)
    cases None f (inr (e, b)) (inr (inr k)) = absurd (none_below other.signs b)

-- a move that begins with a move's signs is before the next one
pub begun_before : (m other : Move) → other.count ≡ m.count → Begins m.signs other.signs → move_cmp other (move_after m) ≡ Less
begun_before m other e b = cases (signs_after m.signs) (begun_below m.signs b.rest)
  where
    cases : (r : Option (List Sign)) → IsBelow (m.signs ++ b.rest) r → move_cmp other (move_with_signs m.count r) ≡ Less
    cases (Some n) h = less_from other (record { count = m.count; signs = n }) (inr (e, ap (λ l. signs_cmp l n) b.is ∙ h))
    cases None h = less_from other (record { count = m.count + 1; signs = [] }) (inl (omega arith))
