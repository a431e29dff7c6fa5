-- What holds of all elements of a list: of lists laid end to end, and where a test passes each.
use Rattle.std.specs.List.{AllByRecursion, list_all, list_any}
use Rattle.std.proofs.Common.{List, Some, [], ap, arith, drop, false, get_or, inl, inr, length, map, refl, set, slice_get, slice_index_or, subst, suc, sym}
use Rattle.std.proofs.Common.{take, true, zero, ℕ, ◌++◌, ◌<◌, ◌||◌, ◌∙◌, ◌∷◌, ◌≡◌}
use Rattle.std.specs.Prelude.{All, Any, Bool, IsTrue, cond, filter, int_div, nat_abs, negsuc, pos, ℤ, ◌*ℤ◌, ◌*◌, ◌<ℤ◌, ◌^◌, ◌≤ℤ◌, ◌≤◌, ◌⊎◌}
use Rattle.std.proofs.lemmas.Bool.{and_from, and_parts, both_ways, cases_Bool, or_left, or_right}
use Prim.Native.Nat.{◌∣◌}
use Rattle.std.proofs.Math.IntN.{*ℤ_comm}
use Rattle.std.proofs.Math.Nat.{div-le_self, dvd-mul_left, mul-dvd-mul_left, mul_comm}
use Rattle.std.proofs.lemmas.Int.{ints, unsigned_abs-mul}
use Rattle.std.proofs.lemmas.List.Elements.{All-from_recursion}
use Rattle.std.proofs.lemmas.Option.{same_Some}
use Rattle.bk_laws.proofs.ListPlaces.{head_same, tail_same}
use Rattle.bk_laws.proofs.Magnitudes.{quotient_by_zero_or_one}
use Rattle.bk_laws.proofs.Truth.{or-monotone}
use Rattle.bk_laws.proofs.WholeNumbers.{abs-mul, abs-quotient, divisor_times_quotient, one-*ℤ}

-- what holds of all of two lists holds of all of both, end to end
pub all_append : {A : Type 0} (P : A → Type 0) (xs ys : List A) → AllByRecursion P xs → AllByRecursion P ys → AllByRecursion P (xs ++ ys)
all_append P [] ys a b = b
all_append P (x ∷ xs) ys a b = (a.0, all_append P xs ys a.1 b)

-- what holds of all of both lists, end to end, holds of all of the first
pub all_left : {A : Type 0} (P : A → Type 0) (xs ys : List A) → AllByRecursion P (xs ++ ys) → AllByRecursion P xs
all_left P [] ys all = tt
all_left P (x ∷ xs) ys all = (all.0, all_left P xs ys all.1)

-- what holds of each element of two lists laid end to end holds of each of the second
pub all_right : {A : Type 0} (P : A → Type 0) (xs ys : List A) → AllByRecursion P (xs ++ ys) → AllByRecursion P ys
all_right P [] ys all = all
all_right P (x ∷ xs) ys all = all_right P xs ys all.1

-- what a test shows of each element holds of all of a list that passes
pub all_from_test : {X : Type 0} (P : X → Type 0) (p : X → Bool) → ((x : X) → IsTrue (p x) → P x)
    → (xs : List X) → IsTrue (list_all p xs) → AllByRecursion P xs
all_from_test P p shows [] h = tt
all_from_test P p shows (x ∷ xs) h = let parts = and_parts (p x) (list_all p xs) h in (shows x parts.0, all_from_test P p shows xs parts.1)

-- a test that an item of a list passes, an item of the list with more behind it passes
pub list_any-append_left : (p : ℕ → Bool) (xs ys : List ℕ) → list_any p xs ≡ true → list_any p (xs ++ ys) ≡ true
list_any-append_left p [] ys e = absurd (cc)
list_any-append_left p (x ∷ xs) ys e = or-monotone (p x) (list_any p xs) (p x) (list_any p (xs ++ ys)) (λ f. f) (list_any-append_left p xs ys) e

-- a test that an item of a list passes, an item of the list with more before it passes
pub list_any-append_right : (p : ℕ → Bool) (xs ys : List ℕ) → list_any p ys ≡ true → list_any p (xs ++ ys) ≡ true
list_any-append_right p [] ys e = e
list_any-append_right p (x ∷ xs) ys e = or_right (p x) (list_any p (xs ++ ys)) (list_any-append_right p xs ys e)

-- what holds of all items and of one more holds of all after that one is written over an item
pub all-set : {X : Type 0} (P : X → Type 0) (xs : List X) (i : ℕ) (x : X) → AllByRecursion P xs → P x → AllByRecursion P (set xs i x)
all-set P [] i x all p = tt
all-set P (w ∷ xs) zero x all p = (p, all.1)
all-set P (w ∷ xs) (suc i) x all p = (all.0, all-set P xs i x all.1 p)

-- what divides the magnitudes in a list divides the numbers
pub all_divisible-from_magnitudes : (d : ℕ) (cs : List ℤ) → AllByRecursion (λ n. d ∣ n) (map nat_abs cs) → AllByRecursion (λ c. d ∣ nat_abs c) cs
all_divisible-from_magnitudes d [] all = tt
all_divisible-from_magnitudes d (c ∷ cs) all = (all.0, all_divisible-from_magnitudes d cs all.1)

-- if multiples of two lists by two factors are the same, the one factor divides the multiples of the magnitudes by the other
pub all_divisible-of_equal_multiples : (t u : ℤ) (cs ds : List ℤ) → map (λ c. c *ℤ t) ds ≡ map (λ c. c *ℤ u) cs
    → AllByRecursion (λ n. nat_abs t ∣ n) (map (λ n. nat_abs u * n) (map nat_abs cs))
all_divisible-of_equal_multiples t u [] [] e = tt
all_divisible-of_equal_multiples t u [] (d ∷ ds) e = absurd cc
all_divisible-of_equal_multiples t u (c ∷ cs) [] e = absurd cc
all_divisible-of_equal_multiples t u (c ∷ cs) (d ∷ ds) e = (
  subst (λ (n : ℕ). nat_abs t ∣ n) (sym (unsigned_abs-mul d t) ∙ ap nat_abs (head_same _ _ _ _ e) ∙ unsigned_abs-mul c u
      ∙ mul_comm (nat_abs c) (nat_abs u)) (dvd-mul_left (nat_abs t) (nat_abs d)),
  all_divisible-of_equal_multiples t u cs ds (tail_same _ _ _ _ e),
)

-- what holds of each image holds of all of a mapped list
pub all-map_of_each : {X Y : Type 0} (P : Y → Type 0) (f : X → Y) (us : List X) → ((u : X) → P (f u)) → AllByRecursion P (map f us)
all-map_of_each P f [] each = tt
all-map_of_each P f (u ∷ us) each = (each u, all-map_of_each P f us each)

-- what holds of all items holds of the one at a place
pub all-slice_index_or : {A : Type 0} (P : A → Type 0) (xs : List A) (k : ℕ) (d : A) → AllByRecursion P xs → k < length xs → P (slice_index_or xs k d)
all-slice_index_or P [] k d all h = absurd (omega arith)
all-slice_index_or P (x ∷ xs) zero d all h = all.0
all-slice_index_or P (x ∷ xs) (suc k) d all h = all-slice_index_or P xs k d all.1 (omega arith)

-- what divides all numbers of a list divides their magnitudes
pub all_divisible-in_magnitudes : (d : ℕ) (zs : List ℤ) → AllByRecursion (λ z. d ∣ nat_abs z) zs → AllByRecursion (λ n. d ∣ n) (map nat_abs zs)
all_divisible-in_magnitudes d [] all = tt
all_divisible-in_magnitudes d (z ∷ zs) all = (all.0, all_divisible-in_magnitudes d zs all.1)

-- what divides the quotients by a common divisor divides the numbers, times that divisor
pub all_divisible-by_product : (g d : ℕ) (zs : List ℤ) → AllByRecursion (λ n. g ∣ n) (map nat_abs zs)
    → AllByRecursion (λ n. d ∣ n) (map nat_abs (map (λ n. int_div n (pos g)) zs)) → AllByRecursion (λ n. g * d ∣ n) (map nat_abs zs)
all_divisible-by_product g d [] divides all = tt
all_divisible-by_product g d (z ∷ zs) divides all = (
  subst (λ (n : ℕ). g * d ∣ n) (sym (abs-mul g (int_div z (pos g))) ∙ ap nat_abs (divisor_times_quotient g z divides.0)) (mul-dvd-mul_left d g all.0),
  all_divisible-by_product g d zs divides.1 all.1,
)

-- the quotients by a common divisor, times it, are the numbers
pub all_exact-quotients : (g : ℕ) (zs : List ℤ) → AllByRecursion (λ n. g ∣ n) (map nat_abs zs) → AllByRecursion (λ z. int_div z (pos g) *ℤ pos g ≡ z) zs
all_exact-quotients g [] all = tt
all_exact-quotients g (z ∷ zs) all = (*ℤ_comm (int_div z (pos g)) (pos g) ∙ divisor_times_quotient g z all.0, all_exact-quotients g zs all.1)

-- the quotients by a common divisor that is 0 or 1 are the numbers
pub all_exact-by_zero_or_one : (g : ℕ) (zs : List ℤ) → g < 2 → AllByRecursion (λ n. g ∣ n) (map nat_abs zs) → AllByRecursion
    (λ z. int_div z (pos g) *ℤ pos 1 ≡ z) zs
all_exact-by_zero_or_one g [] low all = tt
all_exact-by_zero_or_one g (z ∷ zs) low all = (
  *ℤ_comm (int_div z (pos g)) (pos 1) ∙ one-*ℤ (int_div z (pos g)) ∙ sym (quotient_by_zero_or_one g z low all.0),
  all_exact-by_zero_or_one g zs low all.1,
)

-- numbers that 0 or 1 divides are their quotients by it
pub quotients_by_zero_or_one : (g : ℕ) (zs : List ℤ) → g < 2 → AllByRecursion (λ n. g ∣ n) (map nat_abs zs) → zs ≡ map (λ n. int_div n (pos g)) zs
quotients_by_zero_or_one g [] h all = refl
quotients_by_zero_or_one g (z ∷ zs) h all = λ i. quotient_by_zero_or_one g z h all.0 i ∷ quotients_by_zero_or_one g zs h all.1 i

-- if an item passes a test, the test of any item of the list passes
pub list_any-slice_get : (p : ℕ → Bool) (xs : List ℕ) (k x : ℕ) → slice_get xs k ≡ Some x → p x ≡ true → list_any p xs ≡ true
list_any-slice_get p [] k x e h = absurd (cc)
list_any-slice_get p (y ∷ xs) zero x e h = or_left (p y) (list_any p xs) (ap p (same_Some y x e) ∙ h)
list_any-slice_get p (y ∷ xs) (suc k) x e h = behind (p y) (list_any-slice_get p xs k x e h)
  where
    behind : (b : Bool) → list_any p xs ≡ true → (b || list_any p xs) ≡ true
    behind true f = refl
    behind false f = f

-- what follows from a fact of each item follows for all
pub all-weaken : {A : Type 0} (P Q : A → Type 0) → ((x : A) → P x → Q x) → (xs : List A) → AllByRecursion P xs → AllByRecursion Q xs
all-weaken P Q f [] a = tt
all-weaken P Q f (x ∷ xs) a = (f x a.0, all-weaken P Q f xs a.1)

-- what holds of all items holds of the one that is got at a place
pub all-slice_get : {A : Type 0} (P : A → Type 0) (xs : List A) (k : ℕ) (x : A) → AllByRecursion P xs → slice_get xs k ≡ Some x → P x
all-slice_get P [] k x all e = absurd (cc)
all-slice_get P (y ∷ xs) zero x all e = let same : y ≡ x = cc in subst P same all.0
all-slice_get P (y ∷ xs) (suc k) x all e = all-slice_get P xs k x all.1 e

-- numbers from 1 to at most 200 are at most 999
pub all_small-below_1000 : (numbers : List ℕ) (most : ℕ) → most ≤ 200 → All (λ n. (0 < n) × (n ≤ most)) numbers → All (λ n. n ≤ 999) numbers
all_small-below_1000 numbers most few all k d within = omega (arith, (all k d within).1, few)

-- a test that passes wherever a fact holds passes all items of which it holds
pub list_all-from_all : {X : Type 0} (P : X → Type 0) (p : X → Bool) → ((x : X) → P x → IsTrue (p x)) → (xs : List X) → AllByRecursion P xs → IsTrue
    (list_all p xs)
list_all-from_all P p shows [] all = refl
list_all-from_all P p shows (x ∷ xs) all = and_from (p x) (list_all p xs) (shows x all.0) (list_all-from_all P p shows xs all.1)

-- what holds of all selected items holds of each item that the test selects
pub all-filter_back : {X : Type 0} (P : X → Type 0) (p : X → Bool) (xs : List X) → AllByRecursion P (filter p xs) → AllByRecursion (λ x. IsTrue (p x) → P x) xs
all-filter_back P p [] all = tt
all-filter_back P p (x ∷ xs) all = step (cases_Bool (p x)) (λ rest. all-filter_back P p xs rest)
  where
    step : (p x ≡ true) ⊎ (p x ≡ false) → (AllByRecursion P (filter p xs) → AllByRecursion (λ x. IsTrue (p x) → P x) xs)
        → AllByRecursion (λ x. IsTrue (p x) → P x) (x ∷ xs)
    step (inl picked) ih =
        let both : AllByRecursion P (x ∷ filter p xs) = subst (λ b. AllByRecursion P (cond b (x ∷ filter p xs) (filter p xs))) picked all in
        ((λ h. both.0), ih both.1)
    step (inr none) ih =
        let rest : AllByRecursion P (filter p xs) = subst (λ b. AllByRecursion P (cond b (x ∷ filter p xs) (filter p xs))) none all in
        ((λ h. absurd (both_ways (p x) none h)), ih rest)

-- tests that agree on all items select the same
pub filter-same_test : {X : Type 0} (p q : X → Bool) (xs : List X) → AllByRecursion (λ x. p x ≡ q x) xs → filter p xs ≡ filter q xs
filter-same_test p q [] all = refl
filter-same_test p q (x ∷ xs) all =
    ap (λ b. cond b (x ∷ filter p xs) (filter p xs)) all.0 ∙ ap (λ ys. cond (q x) (x ∷ ys) ys) (filter-same_test p q xs all.1)

-- a test that all items pass, the one at a place passes
pub list_all-get_or : {X : Type 0} (p : X → Bool) (xs : List X) (k : ℕ) (d : X) → IsTrue (list_all p xs) → k < length xs → IsTrue (p (get_or xs k d))
list_all-get_or p [] k d h few = absurd (omega arith)
list_all-get_or p (x ∷ xs) zero d h few = (and_parts (p x) (list_all p xs) h).0
list_all-get_or p (x ∷ xs) (suc k) d h few = list_all-get_or p xs k d (and_parts (p x) (list_all p xs) h).1 (omega arith)

-- what holds of each item that a test selects holds of all selected ones
pub all-filter : {X : Type 0} (P : X → Type 0) (p : X → Bool) (xs : List X) → AllByRecursion (λ x. p x ≡ true → P x) xs → AllByRecursion P (filter p xs)
all-filter P p [] all = tt
all-filter P p (x ∷ xs) all = step (cases_Bool (p x)) (all-filter P p xs all.1)
  where
    step : (p x ≡ true) ⊎ (p x ≡ false) → AllByRecursion P (filter p xs) → AllByRecursion P (cond (p x) (x ∷ filter p xs) (filter p xs))
    step (inl yes_p) rest = subst (λ b. AllByRecursion P (cond b (x ∷ filter p xs) (filter p xs))) (sym yes_p) (all.0 yes_p, rest)
    step (inr no_p) rest = subst (λ b. AllByRecursion P (cond b (x ∷ filter p xs) (filter p xs))) (sym no_p) rest

-- of numbers that are all at most 2^34 in magnitude, none is 10^15 or more
pub none_large-where_all_small : (currents : List ℤ) → All (λ n. nat_abs n ≤ 2 ^ 34) currents → Any (λ c. 10 ^ 15 ≤ nat_abs c) currents → ⊥
none_large-where_all_small currents all (k, c, within, at, large) = absurd (omega (arith, subst (λ (n : ℤ). nat_abs n ≤ 2 ^ 34) at (all k c within), large))

-- if all numbers of a list are at most 2^34 in magnitude, so are all behind the first
pub all_small-tail : (n : ℤ) (ns : List ℤ) → All (λ n. nat_abs n ≤ 2 ^ 34) (n ∷ ns) → All (λ n. nat_abs n ≤ 2 ^ 34) ns
all_small-tail n ns all = λ k d within. all (suc k) d (omega arith)

-- what holds of all items holds of the first ones
pub all-take : (P : ℕ → Type 0) (k : ℕ) (xs : List ℕ) → AllByRecursion P xs → AllByRecursion P (take k xs)
all-take P zero xs a = tt
all-take P (suc k) [] a = tt
all-take P (suc k) (x ∷ xs) a = (a.0, all-take P k xs a.1)

-- what holds of all items holds of those behind the first ones
pub all-drop : (P : ℕ → Type 0) (k : ℕ) (xs : List ℕ) → AllByRecursion P xs → AllByRecursion P (drop k xs)
all-drop P zero xs a = a
all-drop P (suc k) [] a = tt
all-drop P (suc k) (x ∷ xs) a = all-drop P k xs a.1

-- of numbers that are all at least 1, none is less than 1
pub none_below_one-where_all_positive : (cs : List ℤ) → Any (λ c. c <ℤ pos 1) cs → AllByRecursion (λ c. pos 1 ≤ℤ c) cs → ⊥
none_below_one-where_all_positive cs (k, c, within, at, below) all =
    let long : pos 1 ≤ℤ c = subst (λ (x : ℤ). pos 1 ≤ℤ x) at (All-from_recursion (λ x. pos 1 ≤ℤ x) cs all k c within) in
    omega (arith, ints, below, long)

-- what holds of all items and of one more holds of all of the list with that one at its end
pub all-snoc : {A : Type 0} (P : A → Type 0) (xs : List A) (x : A) → AllByRecursion P xs → P x → AllByRecursion P (xs ++ x ∷ [])
all-snoc P [] x all p = (p, tt)
all-snoc P (y ∷ xs) x all p = (all.0, all-snoc P xs x all.1 p)

-- positive numbers have positive magnitudes, and are those magnitudes
pub all_positive-magnitudes : (cs : List ℤ) → AllByRecursion (λ c. pos 1 ≤ℤ c) cs → AllByRecursion (λ s. 0 < s) (map nat_abs cs) ×
    (cs ≡ map pos (map nat_abs cs))
all_positive-magnitudes [] long = (tt, refl)
all_positive-magnitudes (pos n ∷ cs) long =
    let rest = all_positive-magnitudes cs long.1 in ((omega (arith, ints, long.0), rest.0), ap (λ (ds : List ℤ). pos n ∷ ds) rest.1)
all_positive-magnitudes (negsuc n ∷ cs) long = absurd (omega (arith, ints, long.0))

-- what holds of the first k items of a list holds of the item at each place before k
pub all-get_or_of_take : {X : Type 0} (P : X → Type 0) (xs : List X) (k j : ℕ) (d : X) → AllByRecursion P (take k xs) → j < k → j < length xs
    → P (get_or xs j d)
all-get_or_of_take P [] k j d all hk hl = absurd (omega arith)
all-get_or_of_take P (x ∷ xs) zero j d all hk hl = absurd (omega arith)
all-get_or_of_take P (x ∷ xs) (suc k) zero d all hk hl = all.0
all-get_or_of_take P (x ∷ xs) (suc k) (suc j) d all hk hl = all-get_or_of_take P xs k j d all.1 (omega arith) (omega arith)

-- the numbers are at most b in magnitude
abbrev pub AreUpTo : ℕ → List ℤ → Type 0
AreUpTo b zs = AllByRecursion (λ z. nat_abs z ≤ b) zs

-- the quotients of numbers that are at most b in magnitude are at most b in magnitude
pub divided_up_to : (b g : ℕ) (zs : List ℤ) → AreUpTo b zs → AreUpTo b (map (λ n. int_div n (pos g)) zs)
divided_up_to b g [] all = tt
divided_up_to b g (z ∷ zs) all = (omega (arith, abs-quotient g z, div-le_self (nat_abs z) g, all.0), divided_up_to b g zs all.1)
