-- How numbers and lists of numbers compare, as an order.
use Rattle.std.specs.Cmp.{nat_cmp_is}
use Rattle.std.specs.Cmp.Lexicographic.{nat_list_cmp_total, slice_cmp}
use Rattle.std.specs.Ordering.{is_le, nat_cmp, ordering_reverse, ordering_then}
use Rattle.std.specs.declared.cmp.Ordering.{Ordering}
use Rattle.std.proofs.Common.{Equal, Greater, Less, List, [], ap, arith, inl, inr, refl, subst, sym, true, ℕ, ◌*◌, ◌+◌, ◌-◌, ◌<◌, ◌∙◌, ◌∷◌, ◌≡◌, ◌≤◌, ◌⊎◌}
use Rattle.std.proofs.Math.Nat.{mul-le-mul_right}
use Rattle.std.proofs.lemmas.Bool.{false≢true}
use Rattle.std.proofs.lemmas.Bool.Decides.{nat_tests}
use Rattle.bk_laws.proofs.NumberOrder.{lt_or_eq_or_gt}

-- greater isn't less
pub greater-is_not_less : Greater ≡ Less → ⊥
greater-is_not_less e = cc

-- an order is less or not
pub ordering-less_or_not : (r : Ordering) → (r ≡ Less) ⊎ (r ≡ Less → ⊥)
ordering-less_or_not Less = inl refl
ordering-less_or_not Equal = inr (λ (e : Equal ≡ Less). absurd (cc))
ordering-less_or_not Greater = inr greater-is_not_less

-- the first digit decides, else the rest
pub nat_cmp-first_digit_decides : (x y p a b : ℕ) → a < p → b < p → nat_cmp (x * p + a) (y * p + b) ≡ ordering_then (nat_cmp x y) (nat_cmp a b)
nat_cmp-first_digit_decides x y p a b small small_b = cases (lt_or_eq_or_gt x y)
  where
    cases : (x < y) ⊎ ((x ≡ y) ⊎ (y < x)) → nat_cmp (x * p + a) (y * p + b) ≡ ordering_then (nat_cmp x y) (nat_cmp a b)
    cases (inl h) =
        let k : x + 1 ≤ y = omega arith in
        let l = mul-le-mul_right p k in
        sym (nat_cmp_is (x * p + a) (y * p + b) Less (omega (arith, l))) ∙ ap (λ z. ordering_then z (nat_cmp a b)) (nat_cmp_is x y Less h)
    cases (inr (inl h)) = same (lt_or_eq_or_gt a b)
      where
        equal : ordering_then (nat_cmp x y) (nat_cmp a b) ≡ nat_cmp a b
        equal = ap (λ z. ordering_then z (nat_cmp a b)) (sym (nat_cmp_is x y Equal h))

        times : x * p ≡ y * p
        times = ap (λ z. z * p) h

        same : (a < b) ⊎ ((a ≡ b) ⊎ (b < a)) → nat_cmp (x * p + a) (y * p + b) ≡ ordering_then (nat_cmp x y) (nat_cmp a b)
        same (inl k) = sym (nat_cmp_is (x * p + a) (y * p + b) Less (omega (arith, times))) ∙ nat_cmp_is a b Less k ∙ sym equal
        same (inr (inl k)) = sym (nat_cmp_is (x * p + a) (y * p + b) Equal (omega (arith, times))) ∙ nat_cmp_is a b Equal k ∙ sym equal
        same (inr (inr k)) = sym (nat_cmp_is (x * p + a) (y * p + b) Greater (omega (arith, times))) ∙ nat_cmp_is a b Greater k ∙ sym equal
    cases (inr (inr h)) =
        let k : y + 1 ≤ x = omega arith in
        let l = mul-le-mul_right p k in
        sym (nat_cmp_is (x * p + a) (y * p + b) Greater (omega (arith, l))) ∙ ap (λ z. ordering_then z (nat_cmp a b)) (nat_cmp_is x y Greater h)

-- two positive numbers compare as those before them
pub nat_cmp-pred : (x y : ℕ) → 0 < x → 0 < y → nat_cmp (x - 1) (y - 1) ≡ nat_cmp x y
nat_cmp-pred x y some some_y = cases (lt_or_eq_or_gt x y)
  where
    cases : (x < y) ⊎ ((x ≡ y) ⊎ (y < x)) → nat_cmp (x - 1) (y - 1) ≡ nat_cmp x y
    cases (inl h) = sym (nat_cmp_is (x - 1) (y - 1) Less (omega arith)) ∙ nat_cmp_is x y Less h
    cases (inr (inl h)) = sym (nat_cmp_is (x - 1) (y - 1) Equal (omega arith)) ∙ nat_cmp_is x y Equal h
    cases (inr (inr h)) = sym (nat_cmp_is (x - 1) (y - 1) Greater (omega arith)) ∙ nat_cmp_is x y Greater h

-- a number that compares as less is less
pub lt-from_nat_cmp : (x y : ℕ) → nat_cmp x y ≡ Less → x < y
lt-from_nat_cmp x y e = cases (lt_or_eq_or_gt x y)
  where
    equal : Equal ≡ Less → ⊥
    equal f = cc

    more : Greater ≡ Less → ⊥
    more f = cc

    cases : (x < y) ⊎ ((x ≡ y) ⊎ (y < x)) → x < y
    cases (inl h) = h
    cases (inr (inl h)) = absurd (equal (nat_cmp_is x y Equal h ∙ e))
    cases (inr (inr h)) = absurd (more (nat_cmp_is x y Greater h ∙ e))

-- if less is what the comparison says, the first number is less
pub lt-from_less_is_nat_cmp : (a b : ℕ) → Less ≡ nat_cmp a b → a < b
lt-from_less_is_nat_cmp a b e = grind (arith, nat_tests)

-- if greater is what the comparison says, the second number is less
pub gt-from_greater_is_nat_cmp : (a b : ℕ) → Greater ≡ nat_cmp a b → b < a
gt-from_greater_is_nat_cmp a b e = grind (arith, nat_tests)

-- if equal is what the comparison says, the numbers are equal
pub eq-from_equal_is_nat_cmp : (a b : ℕ) → Equal ≡ nat_cmp a b → a ≡ b
eq-from_equal_is_nat_cmp a b e = grind (arith, nat_tests)

-- lists of numbers that compare as equal are equal
pub slice_cmp-equal : (xs ys : List ℕ) → slice_cmp nat_cmp xs ys ≡ Equal → xs ≡ ys
slice_cmp-equal [] [] e = refl
slice_cmp-equal [] (y ∷ ys) e = absurd (impossible e)
  where
    impossible : Less ≡ Equal → ⊥
    impossible f = cc
slice_cmp-equal (x ∷ xs) [] e = absurd (impossible e)
  where
    impossible : Greater ≡ Equal → ⊥
    impossible f = cc
slice_cmp-equal (x ∷ xs) (y ∷ ys) e = cases (nat_cmp x y) refl (slice_cmp-equal xs ys)
  where
    equal : (x y : ℕ) → nat_cmp x y ≡ Equal → x ≡ y
    equal x y f = grind (arith, nat_tests)

    less : Less ≡ Equal → ⊥
    less f = cc

    greater : Greater ≡ Equal → ⊥
    greater f = cc

    cases : (r : Ordering) → nat_cmp x y ≡ r → (slice_cmp nat_cmp xs ys ≡ Equal → xs ≡ ys) → x ∷ xs ≡ y ∷ ys
    cases Less f rest = absurd (less (sym (ap (λ (o : Ordering). ordering_then o (slice_cmp nat_cmp xs ys)) f) ∙ e))
    cases Greater f rest = absurd (greater (sym (ap (λ (o : Ordering). ordering_then o (slice_cmp nat_cmp xs ys)) f) ∙ e))
    cases Equal f rest = λ i. equal x y f i ∷ rest (sym (ap (λ (o : Ordering). ordering_then o (slice_cmp nat_cmp xs ys)) f) ∙ e) i

-- lists of numbers that are each at most the other are equal
pub slice_cmp-antisymmetric : (xs ys : List ℕ) → is_le (slice_cmp nat_cmp xs ys) ≡ true → is_le (slice_cmp nat_cmp ys xs) ≡ true → xs ≡ ys
slice_cmp-antisymmetric xs ys a b = cases (slice_cmp nat_cmp xs ys) refl
  where
    cases : (r : Ordering) → slice_cmp nat_cmp xs ys ≡ r → xs ≡ ys
    cases Less e = absurd (false≢true (sym (ap is_le (nat_list_cmp_total.antisymm ys xs ∙ ap ordering_reverse e)) ∙ b))
    cases Equal e = slice_cmp-equal xs ys e
    cases Greater e = absurd (false≢true (sym (ap is_le e) ∙ a))

-- of three lists of numbers in order, the first is at most the third
pub slice_cmp-transitive : (xs ys zs : List ℕ) → is_le (slice_cmp nat_cmp xs ys) ≡ true → is_le (slice_cmp nat_cmp ys zs) ≡ true → is_le
    (slice_cmp nat_cmp xs zs) ≡ true
slice_cmp-transitive xs ys zs a b = cases (slice_cmp nat_cmp xs ys) refl (slice_cmp nat_cmp ys zs) refl
  where
    cases : (r : Ordering) → slice_cmp nat_cmp xs ys ≡ r → (q : Ordering) → slice_cmp nat_cmp ys zs ≡ q → is_le (slice_cmp nat_cmp xs zs) ≡ true
    cases Greater e q f = absurd (false≢true (sym (ap is_le e) ∙ a))
    cases Equal e q f = subst (λ (list : List ℕ). is_le (slice_cmp nat_cmp list zs) ≡ true) (sym (slice_cmp-equal xs ys e)) b
    cases Less e Greater f = absurd (false≢true (sym (ap is_le f) ∙ b))
    cases Less e Equal f = subst (λ (list : List ℕ). is_le (slice_cmp nat_cmp xs list) ≡ true) (slice_cmp-equal ys zs f) a
    cases Less e Less f = ap is_le (nat_list_cmp_total.trans xs ys zs e f)

-- of three orders the first that decides counts, however they are grouped
pub ordering_then-assoc : (a b c : Ordering) → ordering_then (ordering_then a b) c ≡ ordering_then a (ordering_then b c)
ordering_then-assoc Less b c = refl
ordering_then-assoc Equal b c = refl
ordering_then-assoc Greater b c = refl

-- a number above another compares as greater
pub nat_cmp-greater : (m n : ℕ) → n < m → nat_cmp m n ≡ Greater
nat_cmp-greater m n h = grind (arith, nat_tests)
