-- Lists of numbers in which a key rises, and what sorting by a key and filtering by a test keep.
use Rattle.std.proofs.Common.{Bool, List, Some, [], ap, arith, cond, false, filter, inl, inr, nat_lt, refl, slice_get, suc, sym, true, zero, ℕ, ◌+◌}
use Rattle.std.proofs.Common.{◌<◌, ◌∙◌, ◌∷◌, ◌≡◌, ◌≤◌, ◌⊎◌}
use Rattle.std.proofs.lemmas.Bool.{cases_lt, ltb-false, ltb-true}
use Rattle.bk_word.specs.Play.{numbers_from}
use Rattle.bk_layout.specs.TilingLayout.{put_by, sorted_by}

-- the number stands in the list
abbrev pub IsIn : ℕ → List ℕ → Type 0
IsIn q [] = ⊥
IsIn q (r ∷ rs) = (q ≡ r) ⊎ IsIn q rs

-- a number that is got at a place of a list stands in it
pub in_get : (xs : List ℕ) (k q : ℕ) → slice_get xs k ≡ Some q → IsIn q xs
in_get [] k q e = absurd (cc)
in_get (x ∷ xs) zero q e = let same : x ≡ q = cc in inl (sym same)
in_get (x ∷ xs) (suc k) q e = inr (in_get xs k q e)

-- a number that stands in a list is got at some place
pub get_in : (xs : List ℕ) (q : ℕ) → IsIn q xs → (k : ℕ) × (slice_get xs k ≡ Some q)
get_in [] q h = absurd h
get_in (x ∷ xs) q (inl e) = (0, ap Some (sym e))
get_in (x ∷ xs) q (inr h) = let k = get_in xs q h in (suc k.0, k.1)

-- the key rises from each number to those behind it
abbrev pub Ascends : (ℕ → ℕ) → List ℕ → Type 0
Ascends f [] = Unit {0}
Ascends f (q ∷ qs) = ((r : ℕ) → IsIn r qs → f q < f r) × Ascends f qs

-- no two numbers of the list have one key
abbrev pub OnceBy : (ℕ → ℕ) → List ℕ → Type 0
OnceBy f [] = Unit {0}
OnceBy f (q ∷ qs) = ((r : ℕ) → IsIn r qs → f q ≡ f r → ⊥) × OnceBy f qs

-- ---- what sorting keeps

put_to : (f : ℕ → ℕ) (q : ℕ) (xs : List ℕ) (r : ℕ) → (r ≡ q) ⊎ IsIn r xs → IsIn r (put_by f q xs)
put_to f q [] r h = h
put_to f q (x ∷ xs) r h = cases (nat_lt (f q) (f x)) h (put_to f q xs r)
  where
    cases : (b : Bool) → (r ≡ q) ⊎ ((r ≡ x) ⊎ IsIn r xs) → ((r ≡ q) ⊎ IsIn r xs → IsIn r (put_by f q xs)) → IsIn r (cond b (q ∷ x ∷ xs) (x ∷ put_by f q xs))
    cases true h rest = h
    cases false (inl e) rest = inr (rest (inl e))
    cases false (inr (inl e)) rest = inl e
    cases false (inr (inr k)) rest = inr (rest (inr k))

put_from : (f : ℕ → ℕ) (q : ℕ) (xs : List ℕ) (r : ℕ) → IsIn r (put_by f q xs) → (r ≡ q) ⊎ IsIn r xs
put_from f q [] r h = h
put_from f q (x ∷ xs) r h = cases (nat_lt (f q) (f x)) h (put_from f q xs r)
  where
    cases : (b : Bool) → IsIn r (cond b (q ∷ x ∷ xs) (x ∷ put_by f q xs)) → (IsIn r (put_by f q xs) → (r ≡ q) ⊎ IsIn r xs) → (r ≡ q) ⊎ ((r ≡ x) ⊎ IsIn r xs)
    cases true h rest = h
    cases false (inl e) rest = inr (inl e)
    cases false (inr k) rest = wider (rest k)
      where
        wider : (r ≡ q) ⊎ IsIn r xs → (r ≡ q) ⊎ ((r ≡ x) ⊎ IsIn r xs)
        wider (inl e) = inl e
        wider (inr k) = inr (inr k)

put_ascends : (f : ℕ → ℕ) (q : ℕ) (xs : List ℕ) → Ascends f xs → ((r : ℕ) → IsIn r xs → f q ≡ f r → ⊥) → Ascends f (put_by f q xs)
put_ascends f q [] a apart = ((λ r h. absurd h), tt)
put_ascends f q (x ∷ xs) a apart = cases (nat_lt (f q) (f x)) refl (put_ascends f q xs a.1 (λ r h. apart r (inr h)))
  where
    behind : f q < f x → (r : ℕ) → (r ≡ x) ⊎ IsIn r xs → f q < f r
    behind l r (inl e) = omega (arith, l, ap f e)
    behind l r (inr h) = omega (arith, l, a.0 r h)

    before : f x ≤ f q → (r : ℕ) → (r ≡ q) ⊎ IsIn r xs → f x < f r
    before l r (inl e) = differ (cases_lt (f x) (f r))
      where
        differ : (f x < f r) ⊎ (f r ≤ f x) → f x < f r
        differ (inl h) = h
        differ (inr h) = absurd (apart x (inl refl) (omega (arith, l, h, ap f e)))
    before l r (inr h) = a.0 r h

    cases : (b : Bool) → nat_lt (f q) (f x) ≡ b → Ascends f (put_by f q xs) → Ascends f (cond b (q ∷ x ∷ xs) (x ∷ put_by f q xs))
    cases true e rest = (behind (ltb-true (f q) (f x) e), a)
    cases false e rest = ((λ r h. before (ltb-false (f q) (f x) e) r (put_from f q xs r h)), rest)

-- what stands in a list stands in the sorted one
pub sorted_to : (f : ℕ → ℕ) (xs : List ℕ) (r : ℕ) → IsIn r xs → IsIn r (sorted_by f xs)
sorted_to f [] r h = h
sorted_to f (x ∷ xs) r (inl e) = put_to f x (sorted_by f xs) r (inl e)
sorted_to f (x ∷ xs) r (inr h) = put_to f x (sorted_by f xs) r (inr (sorted_to f xs r h))

-- what stands in the sorted list stands in the list
pub sorted_from : (f : ℕ → ℕ) (xs : List ℕ) (r : ℕ) → IsIn r (sorted_by f xs) → IsIn r xs
sorted_from f [] r h = h
sorted_from f (x ∷ xs) r h = cases (put_from f x (sorted_by f xs) r h) (sorted_from f xs r)
  where
    cases : (r ≡ x) ⊎ IsIn r (sorted_by f xs) → (IsIn r (sorted_by f xs) → IsIn r xs) → (r ≡ x) ⊎ IsIn r xs
    cases (inl e) rest = inl e
    cases (inr k) rest = inr (rest k)

-- in the sorted list the key rises, where no two numbers have one key
pub sorted_ascends : (f : ℕ → ℕ) (xs : List ℕ) → OnceBy f xs → Ascends f (sorted_by f xs)
sorted_ascends f [] once = tt
sorted_ascends f (x ∷ xs) once = put_ascends f x (sorted_by f xs) (sorted_ascends f xs once.1) (λ r h. once.0 r (sorted_from f xs r h))

-- ---- the numbers below n that pass a test

-- what stands in a list and passes the test is kept
pub filter_to : (p : ℕ → Bool) (xs : List ℕ) (r : ℕ) → IsIn r xs → p r ≡ true → IsIn r (filter p xs)
filter_to p [] r h e = h
filter_to p (x ∷ xs) r h e = cases (p x) refl h (filter_to p xs r)
  where
    cases : (b : Bool) → p x ≡ b → (r ≡ x) ⊎ IsIn r xs → (IsIn r xs → p r ≡ true → IsIn r (filter p xs)) → IsIn r (cond b (x ∷ filter p xs) (filter p xs))
    cases true f (inl k) rest = inl k
    cases true f (inr k) rest = inr (rest k e)
    cases false f (inl k) rest = let g : p x ≡ true = ap p (sym k) ∙ e in absurd (cc)
    cases false f (inr k) rest = rest k e

-- what is kept of a list stands in it and passes the test
pub filter_from : (p : ℕ → Bool) (xs : List ℕ) (r : ℕ) → IsIn r (filter p xs) → IsIn r xs × (p r ≡ true)
filter_from p [] r h = absurd h
filter_from p (x ∷ xs) r h = cases (p x) refl h (filter_from p xs r)
  where
    cases : (b : Bool) → p x ≡ b → IsIn r (cond b (x ∷ filter p xs) (filter p xs)) → (IsIn r (filter p xs) → IsIn r xs × (p r ≡ true))
        → ((r ≡ x) ⊎ IsIn r xs) × (p r ≡ true)
    cases true f (inl k) rest = (inl k, ap p k ∙ f)
    cases true f (inr k) rest = (inr (rest k).0, (rest k).1)
    cases false f k rest = (inr (rest k).0, (rest k).1)

-- a number in the range stands among the numbers of the range
pub numbers_in : (n k q : ℕ) → n ≤ q → q < n + k → IsIn q (numbers_from n k)
numbers_in n zero q lo hi = absurd (omega arith)
numbers_in n (suc k) q lo hi = cases (cases_lt n q) (numbers_in (n + 1) k q)
  where
    cases : (n < q) ⊎ (q ≤ n) → (n + 1 ≤ q → q < n + 1 + k → IsIn q (numbers_from (n + 1) k)) → (q ≡ n) ⊎ IsIn q (numbers_from (n + 1) k)
    cases (inl h) rest = inr (rest (omega arith) (omega arith))
    cases (inr h) rest = inl (omega arith)

-- each number of a range is in the range
pub in_numbers : (n k q : ℕ) → IsIn q (numbers_from n k) → (n ≤ q) × (q < n + k)
in_numbers n zero q h = absurd h
in_numbers n (suc k) q (inl e) = (omega (arith, e), omega (arith, e))
in_numbers n (suc k) q (inr h) = let r = in_numbers (n + 1) k q h in (omega (arith, r.0), omega (arith, r.1))

-- a key that tells the numbers apart that pass a test tells those kept apart
pub once_from : (f : ℕ → ℕ) (p : ℕ → Bool) (m n k : ℕ) → n + k ≡ m → ((q r : ℕ) → q < m → r < m → p q ≡ true → p r ≡ true → f q ≡ f r → q ≡ r)
    → OnceBy f (filter p (numbers_from n k))
once_from f p m n zero e one = tt
once_from f p m n (suc k) e one = cases (p n) refl (once_from f p m (n + 1) k (omega (arith, e)) one)
  where
    cases : (b : Bool) → p n ≡ b → OnceBy f (filter p (numbers_from (n + 1) k))
        → OnceBy f (cond b (n ∷ filter p (numbers_from (n + 1) k)) (filter p (numbers_from (n + 1) k)))
    cases false g rest = rest
    cases true g rest = (
      (λ r h s. let a = filter_from p (numbers_from (n + 1) k) r h in let b = in_numbers (n + 1) k r a.0 in
          omega (arith, b.0, one n r (omega (arith, e)) (omega (arith, e, b.1)) g a.1 s)),
      rest,
    )
