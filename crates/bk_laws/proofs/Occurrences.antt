-- How often a number stands in a list, and in a list of lists.
use Rattle.std.specs.List.{concat, list_any}
use Rattle.std.proofs.Common.{Bool, List, Some, [], ap, arith, cond, drop, false, inl, inr, length, map, nat_eq, refl, replicate, slice_get, slice_index}
use Rattle.std.proofs.Common.{slice_index_or, subst, suc, sym, take, true, zero, ℕ, ◌++◌, ◌+◌, ◌<◌, ◌||◌, ◌∷◌, ◌≡◌, ◌≤◌, ◌⊎◌}
use Rattle.std.proofs.lemmas.Bool.{cases_eq}
use Rattle.std.proofs.lemmas.Bool.Decides.{nat_tests}
use Rattle.std.proofs.lemmas.Option.{same_Some}
use Rattle.bk_laws.proofs.ListPlaces.{slice_index_or-of_slice_get}
use Rattle.bk_laws.proofs.TestsAsNumbers.{cond_count-nat_eq_other, cond_count-nat_eq_same, nat_eq-same_or_no_count}

-- how often the number stands in the list
abbrev pub times : ℕ → List ℕ → ℕ
times m [] = 0
times m (n ∷ numbers) = cond (nat_eq m n) 1 0 + times m numbers

-- how often the number stands in the lists
abbrev pub times_in : ℕ → List (List ℕ) → ℕ
times_in m [] = 0
times_in m (numbers ∷ lists) = times m numbers + times_in m lists

-- the counts of lists that are laid end to end add up
pub times-append : (m : ℕ) (front back : List ℕ) → times m (front ++ back) ≡ times m front + times m back
times-append m [] back = omega arith
times-append m (n ∷ front) back = omega (arith, times-append m front back)

-- how often a number stands in lists laid end to end is the sum of both counts
pub times_in-append : (m : ℕ) (front back : List (List ℕ)) → times_in m (front ++ back) ≡ times_in m front + times_in m back
times_in-append m [] back = omega arith
times_in-append m (numbers ∷ front) back = omega (arith, times_in-append m front back)

-- a number stands in the concatenation of lists as often as in the lists
pub times-concat : (m : ℕ) (lists : List (List ℕ)) → times m (concat lists) ≡ times_in m lists
times-concat m [] = refl
times-concat m (numbers ∷ lists) = omega (arith, times-append m numbers (concat lists), times-concat m lists)

-- a number stands in one of the lists no more often than in all
pub times_at : (m v : ℕ) (lists : List (List ℕ)) → times m (slice_index_or lists v []) ≤ times_in m lists
times_at m v [] = omega arith
times_at m zero (numbers ∷ lists) = omega arith
times_at m (suc v) (numbers ∷ lists) = omega (arith, times_at m v lists)

-- a list that isn't empty has a number that is counted in it
pub times-some_of_nonempty : (xs : List ℕ) → 0 < length xs → (a : ℕ) × (0 < times a xs)
times-some_of_nonempty [] some = absurd (omega arith)
times-some_of_nonempty (a ∷ xs) some = (a, counted (nat_eq a a) same)
  where
    same : nat_eq a a ≡ true
    same = grind (arith, nat_tests)

    counted : (b : Bool) → b ≡ true → 0 < cond b 1 0 + times a xs
    counted true e = omega arith
    counted false e = absurd (cc)

-- a number that stands at a place is counted
pub times-positive_of_slice_get : (xs : List ℕ) (k q : ℕ) → slice_get xs k ≡ Some q → 0 < times q xs
times-positive_of_slice_get [] k q e = absurd (cc)
times-positive_of_slice_get (x ∷ xs) zero q e = omega (arith, cond_count-nat_eq_same q x (sym (same_Some x q e)))
times-positive_of_slice_get (x ∷ xs) (suc k) q e = omega (arith, times-positive_of_slice_get xs k q e)

-- a number that stands in a list is counted in all
pub times_in-positive_of_slice_get : (z : ℕ) (segments : List (List ℕ)) (i k : ℕ) (s : List ℕ) → slice_get segments i ≡ Some s → slice_get s k ≡ Some z → 0 <
    times_in z segments
times_in-positive_of_slice_get z [] i k s e f = absurd (cc)
times_in-positive_of_slice_get z (t ∷ segments) zero k s e f =
    omega (arith, times-positive_of_slice_get t k z (subst (λ (u : List ℕ). slice_get u k ≡ Some z) (sym (same_Some t s e)) f))
times_in-positive_of_slice_get z (t ∷ segments) (suc i) k s e f = omega (arith, times_in-positive_of_slice_get z segments i k s e f)

-- a number that is counted stands at a place
pub slice_get-of_times_positive : (xs : List ℕ) (q : ℕ) → 0 < times q xs → (k : ℕ) × (slice_get xs k ≡ Some q)
slice_get-of_times_positive [] q h = absurd (omega arith)
slice_get-of_times_positive (x ∷ xs) q h = cases (cases_eq q x) (slice_get-of_times_positive xs q)
  where
    cases : (q ≡ x) ⊎ (q ≡ x → ⊥) → (0 < times q xs → (k : ℕ) × (slice_get xs k ≡ Some q)) → (k : ℕ) × (slice_get (x ∷ xs) k ≡ Some q)
    cases (inl e) rest = (0, ap (λ (z : ℕ). Some z) (sym e))
    cases (inr e) rest = let r = rest (omega (arith, cond_count-nat_eq_other q x e)) in (suc r.0, r.1)

-- a number that stands at one place only is counted at most once
pub times-le_one_of_unique_place : (xs : List ℕ) (q : ℕ) → ((j k : ℕ) → slice_get xs j ≡ Some q → slice_get xs k ≡ Some q → j ≡ k) → times q xs ≤ 1
times-le_one_of_unique_place [] q once = omega arith
times-le_one_of_unique_place (x ∷ xs) q once =
    cases (cases_eq q x) (times-le_one_of_unique_place xs q (λ j k e f. let same : suc j ≡ suc k = once (suc j) (suc k) e f in omega (arith, same)))
  where
    none : q ≡ x → (n : ℕ) → times q xs ≡ n → n ≡ 0
    none e zero t = refl
    none e (suc n) t =
        let g = slice_get-of_times_positive xs q (omega (arith, t)) in absurd (omega (arith, once 0 (suc g.0) (ap (λ (z : ℕ). Some z) (sym e)) g.1))

    cases : (q ≡ x) ⊎ (q ≡ x → ⊥) → times q xs ≤ 1 → times q (x ∷ xs) ≤ 1
    cases (inl e) rest = omega (arith, cond_count-nat_eq_same q x e, none e (times q xs) refl)
    cases (inr e) rest = omega (arith, cond_count-nat_eq_other q x e)

-- a number that is counted at most once stands at one place
pub unique_place-of_times_le_one : (xs : List ℕ) (q : ℕ) → times q xs ≤ 1 → (j k : ℕ) → slice_get xs j ≡ Some q → slice_get xs k ≡ Some q → j ≡ k
unique_place-of_times_le_one [] q few j k e f = absurd (cc)
unique_place-of_times_le_one (x ∷ xs) q few zero zero e f = refl
unique_place-of_times_le_one (x ∷ xs) q few zero (suc k) e f =
    absurd (omega (arith, few, cond_count-nat_eq_same q x (sym (same_Some x q e)), times-positive_of_slice_get xs k q f))
unique_place-of_times_le_one (x ∷ xs) q few (suc j) zero e f =
    absurd (omega (arith, few, cond_count-nat_eq_same q x (sym (same_Some x q f)), times-positive_of_slice_get xs j q e))
unique_place-of_times_le_one (x ∷ xs) q few (suc j) (suc k) e f = ap suc (unique_place-of_times_le_one xs q (omega (arith, few)) j k e f)

-- the image of a counted number is counted in the mapped list
pub times-map_positive : (f : ℕ → ℕ) (xs : List ℕ) (m : ℕ) → 0 < times m xs → 0 < times (f m) (map f xs)
times-map_positive f [] m h = absurd (omega arith)
times-map_positive f (x ∷ xs) m h = cases (cases_eq m x) (times-map_positive f xs m)
  where
    cases : (m ≡ x) ⊎ (m ≡ x → ⊥) → (0 < times m xs → 0 < times (f m) (map f xs)) → 0 < times (f m) (map f (x ∷ xs))
    cases (inl e) rest = omega (arith, cond_count-nat_eq_same (f m) (f x) (ap f e))
    cases (inr e) rest = omega (arith, rest (omega (arith, h, cond_count-nat_eq_other m x e)))

-- the first of a list in which a number isn't counted is another
pub times-head_differs : (w x : ℕ) (xs : List ℕ) → times w (x ∷ xs) ≡ 0 → x ≡ w → ⊥
times-head_differs w x xs t e = omega (arith, t, cond_count-nat_eq_same w x (sym e))

-- how often a number stands in a list with one more at its end
pub times-snoc : (xs : List ℕ) (q x : ℕ) → times x (xs ++ (q ∷ [])) ≡ times x xs + cond {A = ℕ} (nat_eq x q) 1 0
times-snoc xs q x = omega (arith, times-append x xs (q ∷ []))

-- a number that stands in the list at a place is counted there
pub times-positive_in_list_at : (lists : List (List ℕ)) (v : ℕ) (numbers : List ℕ) (k c : ℕ) → slice_get lists v ≡ Some numbers → slice_get numbers k ≡ Some c
    → 0 < times c (slice_index_or lists v [])
times-positive_in_list_at lists v numbers k c e f =
    subst (λ (xs : List ℕ). 0 < times c xs) (sym (slice_index_or-of_slice_get lists v numbers e)) (times-positive_of_slice_get numbers k c f)

-- a number is counted in one list of lists as often as in that list
pub times_in-only_list : (x : ℕ) (segments : List (List ℕ)) → length segments ≡ 1 → times_in x segments ≡ times x (slice_index_or segments 0 [])
times_in-only_list x [] one = absurd (omega arith)
times_in-only_list x (s ∷ []) one = omega arith
times_in-only_list x (s ∷ t ∷ segments) one = absurd (omega arith)

-- the number at a place within a list is counted
pub times-slice_index_positive : (xs : List ℕ) (i : ℕ) → i < length xs → 0 < times (slice_index xs i) xs
times-slice_index_positive [] i h = absurd (omega arith)
times-slice_index_positive (x ∷ xs) zero h = omega (arith, same x)
  where
    same : (x : ℕ) → ◌≡◌ {A = ℕ} (cond (nat_eq x x) 1 0) 1
    same x = grind (arith, nat_tests)
times-slice_index_positive (x ∷ xs) (suc i) h = omega (arith, times-slice_index_positive xs i (omega arith))

-- a number that is greater than all of a list isn't counted
pub times-zero_of_all_below : (xs : List ℕ) (n : ℕ) → ((k : ℕ) → k < length xs → slice_index_or xs k 0 < n) → times n xs ≡ 0
times-zero_of_all_below [] n each = refl
times-zero_of_all_below (x ∷ xs) n each = omega (arith, differ, times-zero_of_all_below xs n (λ k h. each (suc k) (omega arith)))
  where
    less : x < n
    less = each 0 (omega arith)

    differ : ◌≡◌ {A = ℕ} (cond (nat_eq n x) 1 0) 0
    differ = grind (arith, nat_tests)

-- how often a number stands in lists, cut at one of them
pub times_in-cut_at : (m p : ℕ) (lists : List (List ℕ))
    → times_in m (take p lists) + times m (slice_index_or lists p []) + times_in m (drop (suc p) lists) ≡ times_in m lists
times_in-cut_at m zero [] = refl
times_in-cut_at m (suc p) [] = refl
times_in-cut_at m zero (numbers ∷ lists) = omega arith
times_in-cut_at m (suc p) (numbers ∷ lists) = omega (arith, times_in-cut_at m p lists)

-- a number stands in lists of one number each as often as among the numbers
pub times_in-singletons : (m : ℕ) (numbers : List ℕ) → times_in m (map (λ q. q ∷ []) numbers) ≡ times m numbers
times_in-singletons m [] = refl
times_in-singletons m (n ∷ numbers) = omega (arith, times_in-singletons m numbers)

-- a number is found in a list and counted, or neither
pub times-list_any_cases : (m : ℕ) (numbers : List ℕ) → ((list_any (nat_eq m) numbers ≡ true) × (0 < times m numbers))
    ⊎ ((list_any (nat_eq m) numbers ≡ false) × (times m numbers ≡ 0))
times-list_any_cases m [] = inr (refl, refl)
times-list_any_cases m (n ∷ numbers) = cases (nat_eq m n) (times-list_any_cases m numbers)
  where
    cases : (b : Bool) → ((list_any (nat_eq m) numbers ≡ true) × (0 < times m numbers)) ⊎ ((list_any (nat_eq m) numbers ≡ false) × (times m numbers ≡ 0))
        → ((b || list_any (nat_eq m) numbers ≡ true) × (0 < cond b 1 0 + times m numbers))
        ⊎ ((b || list_any (nat_eq m) numbers ≡ false) × (cond b 1 0 + times m numbers ≡ 0))
    cases true rest = inl (refl, omega arith)
    cases false (inl h) = inl (h.0, omega (arith, h.1))
    cases false (inr h) = inr (h.0, omega (arith, h.1))

-- a number is counted as often as it is repeated
pub times-replicate : (n x : ℕ) → times x (replicate n x) ≡ n
times-replicate zero x = refl
times-replicate (suc n) x = omega (arith, same, times-replicate n x)
  where
    same : ◌≡◌ {A = ℕ} (cond (nat_eq x x) 1 0) 1
    same = grind (arith, nat_tests)

-- no number but the repeated one is counted
pub times-replicate_other : (n x k : ℕ) → (x ≡ k → ⊥) → times k (replicate n x) ≡ 0
times-replicate_other zero x k h = refl
times-replicate_other (suc n) x k h = omega (arith, differ x k h, times-replicate_other n x k h)
  where
    differ : (x k : ℕ) → (x ≡ k → ⊥) → ◌≡◌ {A = ℕ} (cond (nat_eq k x) 1 0) 0
    differ x k h = grind (arith, nat_tests)

-- the first of a list is counted in it
pub times-first_positive : (n : ℕ) (numbers : List ℕ) → 0 < times n (n ∷ numbers)
times-first_positive n numbers = grind (arith, nat_tests)

-- a number that is counted stands at a place within the list
pub slice_index_or-of_times_positive : (j : ℕ) (xs : List ℕ) → 0 < times j xs → (k : ℕ) × (k < length xs) × (slice_index_or xs k 0 ≡ j)
slice_index_or-of_times_positive j [] h = absurd (omega arith)
slice_index_or-of_times_positive j (x ∷ xs) h = cases (nat_eq-same_or_no_count j x) (slice_index_or-of_times_positive j xs)
  where
    cases : (x ≡ j) ⊎ ◌≡◌ {A = ℕ} (cond (nat_eq j x) 1 0) 0 → (0 < times j xs → (k : ℕ) × (k < length xs) × (slice_index_or xs k 0 ≡ j))
        → (k : ℕ) × (k < suc (length xs)) × (slice_index_or (x ∷ xs) k 0 ≡ j)
    cases (inl e) rest = (0, omega arith, e)
    cases (inr e) rest = let r = rest (omega (arith, e)) in (suc r.0, omega (arith, r.1), r.2)
