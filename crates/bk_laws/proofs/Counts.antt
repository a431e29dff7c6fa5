-- How many elements of a list pass a test, from the places of those that do.
use Rattle.std.specs.Prelude.{Bool, List, [], cond, count_by, filter, get_or, length, suc, true, zero, ℕ, ◌<◌, ◌∷◌, ◌≡◌, ◌≤◌}
use Rattle.std.proofs.Common.{ap, arith, false, inl, inr, map, refl, sym, ◌+◌, ◌==◌, ◌||◌, ◌∙◌, ◌⊎◌}
use Rattle.std.proofs.lemmas.List.Sums.{get_or-le-sum_by, sum_by-cons}
use Rattle.std.proofs.lemmas.Bool.{both_ways, cases_Bool, eq-eqb, true≢false}
use Rattle.std.proofs.lemmas.Bool.Decides.{nat_tests}
use Rattle.std.specs.List.{AllByRecursion, list_any}

-- where an item of a list passes a test, the test counts at least 1
pub count_one : {X : Type 0} (p : X → Bool) (xs : List X) (k : ℕ) (d : X) → k < length xs → p (get_or xs k d) ≡ true → 1 ≤ count_by p xs
count_one p xs k d below e =
    let here : ◌≡◌ {A = ℕ} (cond (p (get_or xs k d)) 1 0) 1 = ap (λ b. cond b 1 0) e in
    omega (arith, here, get_or-le-sum_by (λ x. cond (p x) 1 0) xs k d below)

-- where two items of a list at different places pass a test, the test counts at least 2
pub count_two : {X : Type 0} (p : X → Bool) (xs : List X) (a b : ℕ) (d : X) → a < b → b < length xs
    → p (get_or xs a d) ≡ true → p (get_or xs b d) ≡ true → 2 ≤ count_by p xs
count_two p [] a b d ab l t u = absurd (omega arith)
count_two p (x ∷ xs) zero zero d ab l t u = absurd (omega arith)
count_two p (x ∷ xs) zero (suc b) d ab l t u =
    let e : ◌≡◌ {A = ℕ} (cond (p x) 1 0) 1 = ap (λ b. cond b 1 0) t in
    omega (arith, e, count_one p xs b d (omega arith) u, sum_by-cons (λ y. cond (p y) 1 0) x xs)
count_two p (x ∷ xs) (suc a) zero d ab l t u = absurd (omega arith)
count_two p (x ∷ xs) (suc a) (suc b) d ab l t u =
    omega (arith, count_two p xs a b d (omega arith) (omega arith) t u, sum_by-cons (λ y. cond (p y) 1 0) x xs)

-- a test of the mapped elements counts those whose image passes
pub count_by-map : {A B : Type 0} (p : B → Bool) (f : A → B) (xs : List A) → count_by p (map f xs) ≡ count_by (λ x. p (f x)) xs
count_by-map p f [] = refl
count_by-map {A} {B} p f (x ∷ xs) = sum_by-cons (λ (y : B). cond {A = ℕ} (p y) 1 0) (f x) (map f xs)
    ∙ ap (λ (n : ℕ). cond {A = ℕ} (p (f x)) 1 0 + n) (count_by-map p f xs)
    ∙ sym (sum_by-cons (λ (y : A). cond {A = ℕ} (p (f y)) 1 0) x xs)

-- how often a number occurs in a list, from the first item on
pub count_by-eq_cons : (n x : ℕ) (xs : List ℕ) → count_by (λ m. m == n) (x ∷ xs) ≡ cond {A = ℕ} (x == n) 1 0 + count_by (λ m. m == n) xs
count_by-eq_cons n x xs = sum_by-cons (λ (m : ℕ). cond {A = ℕ} (m == n) 1 0) x xs

-- a number below the first of a list that counts on from it doesn't occur
pub count_by-eq_in_counting_list_below : (n from : ℕ) (xs : List ℕ) → ((k : ℕ) → k < length xs → get_or xs k 0 ≡ from + k) → n < from → count_by (λ m. m == n)
    xs ≡ 0
count_by-eq_in_counting_list_below n from [] all less = refl
count_by-eq_in_counting_list_below n from (x ∷ xs) all less = omega (
  arith,
  count_by-eq_cons n x xs,
  ap (λ (b : Bool). cond {A = ℕ} b 1 0) (apart x n (omega (arith, all 0 (omega arith), less))),
  count_by-eq_in_counting_list_below n (from + 1) xs (λ k h. omega (arith, all (suc k) (omega (arith, h)))) (omega (arith, less)),
)
  where
    apart : (a b : ℕ) → b < a → (a == b) ≡ false
    apart a b h = grind (arith, nat_tests)

-- a number in a list that counts on from the first occurs once
pub count_by-eq_in_counting_list : (n from : ℕ) (xs : List ℕ) → ((k : ℕ) → k < length xs → get_or xs k 0 ≡ from + k) → from ≤ n → n < from + length xs →
    count_by (λ m. m == n) xs ≡ 1
count_by-eq_in_counting_list n from [] all low high = absurd (omega (arith, low, high))
count_by-eq_in_counting_list n from (x ∷ xs) all low high =
    by (least from n low) (λ h. count_by-eq_in_counting_list n (from + 1) xs next h (omega (arith, high)))
  where
    least : (a b : ℕ) → a ≤ b → (a ≡ b) ⊎ (a + 1 ≤ b)
    least a b h = grind arith

    apart : (a b : ℕ) → a < b → (a == b) ≡ false
    apart a b h = grind (arith, nat_tests)

    next : (k : ℕ) → k < length xs → get_or xs k 0 ≡ from + 1 + k
    next k h = omega (arith, all (suc k) (omega (arith, h)))

    by : (from ≡ n) ⊎ (from + 1 ≤ n) → (from + 1 ≤ n → count_by (λ m. m == n) xs ≡ 1) → count_by (λ m. m == n) (x ∷ xs) ≡ 1
    by (inl e) rest = omega (
      arith,
      count_by-eq_cons n x xs,
      ap (λ (b : Bool). cond {A = ℕ} b 1 0) (eq-eqb x n (omega (arith, all 0 (omega arith), e))),
      count_by-eq_in_counting_list_below n (from + 1) xs next (omega (arith, e)),
    )
    by (inr h) rest = omega (
      arith,
      count_by-eq_cons n x xs,
      ap (λ (b : Bool). cond {A = ℕ} b 1 0) (apart x n (omega (arith, all 0 (omega arith), h))),
      rest h,
    )

-- a test that some item passes counts at least 1
pub count_by-list_any : (p : ℕ → Bool) (xs : List ℕ) → list_any p xs ≡ true → 1 ≤ count_by p xs
count_by-list_any p [] e = absurd (true≢false (sym e))
count_by-list_any p (x ∷ xs) e = elim (cases_Bool (p x)) [
  | inl t ↦ let one : ◌≡◌ {A = ℕ} (cond (p x) 1 0) 1 = ap (λ b. cond b 1 0) t in omega (arith, one, sum_by-cons (λ y. cond {A = ℕ} (p y) 1 0) x xs)
  | inr f ↦ omega (arith, count_by-list_any p xs (sym (ap (λ (v : Bool). v || list_any p xs) f) ∙ e), sum_by-cons (λ y. cond {A = ℕ} (p y) 1 0) x xs)
]

-- a test that no item passes counts 0
pub count_by-no_list_any : (p : ℕ → Bool) (xs : List ℕ) → list_any p xs ≡ false → count_by p xs ≡ 0
count_by-no_list_any p [] e = refl
count_by-no_list_any p (x ∷ xs) e = elim (cases_Bool (p x)) [
  | inl t ↦ absurd (true≢false (sym (ap (λ (v : Bool). v || list_any p xs) t) ∙ e))
  | inr f ↦
      let none : ◌≡◌ {A = ℕ} (cond (p x) 1 0) 0 = ap (λ b. cond b 1 0) f in
      omega (arith, none, count_by-no_list_any p xs (sym (ap (λ (v : Bool). v || list_any p xs) f) ∙ e), sum_by-cons (λ y. cond {A = ℕ} (p y) 1 0) x xs)
]

-- at most as many selected items pass a test as of all
pub count_by-filter_le : {X : Type 0} (p c : X → Bool) (xs : List X) → count_by c (filter p xs) ≤ count_by c xs
count_by-filter_le p c [] = omega arith
count_by-filter_le p c (x ∷ xs) =
    elim (p x) as (λ b. count_by c (cond b (x ∷ filter p xs) (filter p xs)) ≤ count_by c (x ∷ xs)) [
      | true ↦ omega (arith, sum_by-cons (λ y. cond (c y) 1 0) x (filter p xs), sum_by-cons (λ y. cond (c y) 1 0) x xs, count_by-filter_le p c xs)
      | false ↦ omega (arith, sum_by-cons (λ y. cond (c y) 1 0) x xs, count_by-filter_le p c xs)
    ]

-- fewer selected items pass a test than of all, if one that isn't selected passes it
pub count_by-filter_lt : {X : Type 0} (p c : X → Bool) (xs : List X) (k : ℕ) (d : X) → k < length xs → p (get_or xs k d) ≡ false → c (get_or xs k d) ≡ true
    → count_by c (filter p xs) < count_by c xs
count_by-filter_lt p c [] k d within out pass = absurd (omega arith)
count_by-filter_lt p c (x ∷ xs) zero d within out pass =
    let value : ◌≡◌ {A = ℕ} (cond (c x) 1 0) 1 = ap (λ b. cond b 1 0) pass in
    let e : count_by c (cond (p x) (x ∷ filter p xs) (filter p xs)) ≡ count_by c (filter p xs) =
    ap (λ b. count_by c (cond b (x ∷ filter p xs) (filter p xs))) out in
    omega (arith, sum_by-cons (λ y. cond (c y) 1 0) x xs, count_by-filter_le p c xs, value, e)
count_by-filter_lt p c (x ∷ xs) (suc k) d within out pass =
    elim (p x) as (λ b. count_by c (cond b (x ∷ filter p xs) (filter p xs)) < count_by c (x ∷ xs)) [
      | true ↦
          omega (
            arith,
            sum_by-cons (λ y. cond (c y) 1 0) x (filter p xs),
            sum_by-cons (λ y. cond (c y) 1 0) x xs,
            count_by-filter_lt p c xs k d (omega arith) out pass,
          )
      | false ↦ omega (arith, sum_by-cons (λ y. cond (c y) 1 0) x xs, count_by-filter_lt p c xs k d (omega arith) out pass)
    ]

-- where all items that pass a test are selected, as many of the selected pass it
pub count_by-filter_same : {X : Type 0} (p c : X → Bool) (xs : List X) → AllByRecursion (λ x. c x ≡ true → p x ≡ true) xs → count_by c (filter p xs) ≡ count_by
    c xs
count_by-filter_same p c [] all = refl
count_by-filter_same p c (x ∷ xs) all = step (cases_Bool (p x)) (cases_Bool (c x)) (count_by-filter_same p c xs all.1)
  where
    step : (p x ≡ true) ⊎ (p x ≡ false) → (c x ≡ true) ⊎ (c x ≡ false) → count_by c (filter p xs) ≡ count_by c xs
        → count_by c (filter p (x ∷ xs)) ≡ count_by c (x ∷ xs)
    step (inl yes_p) counted ih =
        let e : count_by c (filter p (x ∷ xs)) ≡ count_by c (x ∷ filter p xs) = ap (λ b. count_by c (cond b (x ∷ filter p xs) (filter p xs))) yes_p in
        omega (arith, e, ih, sum_by-cons (λ y. cond (c y) 1 0) x xs, sum_by-cons (λ y. cond (c y) 1 0) x (filter p xs))
    step (inr no_p) (inl counted) ih = absurd (both_ways (p x) no_p (all.0 counted))
    step (inr no_p) (inr uncounted) ih =
        let e : count_by c (filter p (x ∷ xs)) ≡ count_by c (filter p xs) = ap (λ b. count_by c (cond b (x ∷ filter p xs) (filter p xs))) no_p in
        let zero_here : ◌≡◌ {A = ℕ} (cond (c x) 1 0) 0 = ap (λ b. cond b 1 0) uncounted in
        omega (arith, e, ih, zero_here, sum_by-cons (λ y. cond (c y) 1 0) x xs)
