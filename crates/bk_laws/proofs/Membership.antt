-- What a list contains, by places.
use Rattle.std.specs.List.{AllByRecursion}
use Rattle.std.specs.Prelude.{AllPairs, slice_index_or, ℤ}
use Rattle.std.proofs.Common.{Contains, Err, IsTrue, List, MatchResult, Ok, Result, Some, [], ap, arith, get_or, inl, inr, is_ok, length, map, refl, slice_get}
use Rattle.std.proofs.Common.{slice_index, subst, suc, sym, take, zero, ℕ, ◌++◌, ◌<◌, ◌↔◌, ◌∙◌, ◌∷◌, ◌≡◌, ◌≢◌, ◌≤◌, ◌⊎◌}
use Rattle.std.proofs.lemmas.Bool.{cases_lt}
use Rattle.std.proofs.lemmas.List.{get_or_default, length-take, length-take-le}
use Rattle.std.proofs.lemmas.List.Elements.{Contains-append_left, Contains-push}
use Rattle.std.proofs.lemmas.Option.{same_Some, slice_get_within}
use Rattle.bk_laws.proofs.NoneRepeated.{IsIn, NoneRepeated}

-- what a list contains, the list with one more before it contains
pub contains-later : {X : Type 0} (y : X) (xs : List X) (x : X) → Contains xs x → Contains (y ∷ xs) x
contains-later y xs x (k, lt, is) = (suc k, omega arith, is)

-- what stands in a list is its first item, or is contained behind it
pub contains-split_at : {X : Type 0} (y : X) (xs : List X) (x : X) (k : ℕ) → k < length (y ∷ xs) → slice_index_or (y ∷ xs) k x ≡ x → (y ≡ x) ⊎ Contains xs x
contains-split_at y xs x zero lt is = inl is
contains-split_at y xs x (suc k) lt is = inr (k, omega arith, is)

-- what a list contains is its first item, or is contained behind it
pub contains-first_or_later : {X : Type 0} (y : X) (xs : List X) (x : X) → Contains (y ∷ xs) x → (y ≡ x) ⊎ Contains xs x
contains-first_or_later y xs x (k, lt, is) = contains-split_at y xs x k lt is

-- an empty list contains nothing
pub contains-none : {X : Type 0} (x : X) → Contains [] x → ⊥
contains-none x (k, lt, is) = omega arith

-- what is in a list is in it with more behind
pub is_in-append_left : {A : Type 0} (x : A) (xs ys : List A) → IsIn x xs → IsIn x (xs ++ ys)
is_in-append_left x [] ys h = absurd h
is_in-append_left x (y ∷ xs) ys (inl e) = inl e
is_in-append_left x (y ∷ xs) ys (inr h) = inr (is_in-append_left x xs ys h)

-- what is in a list is in it with more before
pub is_in-append_right : {A : Type 0} (x : A) (xs ys : List A) → IsIn x ys → IsIn x (xs ++ ys)
is_in-append_right x [] ys h = h
is_in-append_right x (y ∷ xs) ys h = inr (is_in-append_right x xs ys h)

-- the image of what is in a list is in the mapped list
pub is_in-map : {A B : Type 0} (f : A → B) (x : A) (xs : List A) → IsIn x xs → IsIn (f x) (map f xs)
is_in-map f x [] h = absurd h
is_in-map f x (y ∷ xs) (inl e) = inl (ap f e)
is_in-map f x (y ∷ xs) (inr h) = inr (is_in-map f x xs h)

-- a search in an ascending list finds what is contained
pub contains-of_search : (xs : List ℕ) (x : ℕ) (r : Result ℕ ℕ) → MatchResult r (λ i. (i < length xs) × (slice_index xs i ≡ x))
    (λ i. (i ≤ length xs) × ((k : ℕ) → k < i → slice_index xs k < x) × ((k : ℕ) → i ≤ k → k < length xs → x < slice_index xs k))
    → IsTrue (is_ok r) ↔ Contains xs x
contains-of_search xs x (Ok i) h = (λ e. (i, h.0, get_or_default xs i x 0 h.0 ∙ h.1), λ c. refl)
contains-of_search xs x (Err i) h = (λ e. absurd (cc), λ (k, low, is). absurd (at k low (sym (get_or_default xs k x 0 low) ∙ is) (cases_lt k i)))
  where
    at : (k : ℕ) → k < length xs → slice_index xs k ≡ x → (k < i) ⊎ (i ≤ k) → ⊥
    at k low e (inl g) = let less = h.1 k g in omega (arith, less, e)
    at k low e (inr g) = let more = h.2 k g low in omega (arith, more, e)

-- what stands at a place is contained
pub contains-slice_index : (xs : List ℕ) (place : ℕ) (x : ℕ) → place < length xs → slice_index xs place ≡ x → Contains xs x
contains-slice_index [] place x few is = absurd (omega arith)
contains-slice_index (y ∷ xs) zero x few is = (zero, omega arith, is)
contains-slice_index (y ∷ xs) (suc place) x few is = let c = contains-slice_index xs place x (omega arith) is in (suc c.0, omega (arith, c.1), c.2)

-- what is got at a place is in the list
pub is_in-of_slice_get : (xs : List ℕ) (k x : ℕ) → slice_get xs k ≡ Some x → IsIn x xs
is_in-of_slice_get [] k x e = absurd (cc)
is_in-of_slice_get (y ∷ xs) zero x e = inl (sym (same_Some y x e))
is_in-of_slice_get (y ∷ xs) (suc k) x e = inr (is_in-of_slice_get xs k x e)

-- what is in a list is got at a place
pub slice_get-of_is_in : (xs : List ℕ) (x : ℕ) → IsIn x xs → (k : ℕ) × (slice_get xs k ≡ Some x)
slice_get-of_is_in [] x h = absurd h
slice_get-of_is_in (y ∷ xs) x (inl e) = (0, ap (λ (z : ℕ). Some z) (sym e))
slice_get-of_is_in (y ∷ xs) x (inr h) = let r = slice_get-of_is_in xs x h in (suc r.0, r.1)

-- a list whose items stand at one place each repeats none
pub none_repeated-of_unique_places : (xs : List ℕ) → ((j k q : ℕ) → slice_get xs j ≡ Some q → slice_get xs k ≡ Some q → j ≡ k) → NoneRepeated xs
none_repeated-of_unique_places [] once = tt
none_repeated-of_unique_places (x ∷ xs) once =
    (behind, none_repeated-of_unique_places xs (λ j k q e f. let same : suc j ≡ suc k = once (suc j) (suc k) q e f in omega (arith, same)))
  where
    behind : IsIn x xs → ⊥
    behind h = let r = slice_get-of_is_in xs x h in omega (arith, once 0 (suc r.0) x refl r.1)

-- a list contains its first item
pub contains-first : (line : List ℕ) (lines : List (List ℕ)) → Contains (line ∷ lines) line
contains-first line lines = Contains-append_left (line ∷ []) lines line (Contains-push [] line)

-- a number that those before it don't contain differs from each of them
pub differs-from_earlier_by_search : (numbers : List ℕ) (n : ℕ) → n < length numbers → (Contains (take n numbers) (get_or numbers n 0) → ⊥)
    → (k : ℕ) → k < n → get_or numbers k 0 ≢ get_or numbers n 0
differs-from_earlier_by_search numbers n within absent k low same =
    absent (k, omega (arith, low, length-take-le n numbers (omega (arith, within))), read numbers n k (get_or numbers n 0) low within same)
  where
    read : (xs : List ℕ) (m j d : ℕ) → j < m → m < length xs → get_or xs j 0 ≡ d → get_or (take m xs) j d ≡ d
    read [] m j d h l e = absurd (omega arith)
    read (x ∷ xs) zero j d h l e = absurd (omega arith)
    read (x ∷ xs) (suc m) zero d h l e = e
    read (x ∷ xs) (suc m) (suc j) d h l e = read xs m j d (omega arith) (omega arith) e

-- where those before a number contain it, not all numbers differ
pub not_all_differ-by_search : (numbers : List ℕ) (n x : ℕ) → n < length numbers → x ≡ get_or numbers n 0 → Contains (take n numbers) x → AllPairs ◌≢◌ numbers →
    ⊥
not_all_differ-by_search numbers n x within is (k, low, same) apart =
    apart k n 0 (omega (arith, low, length-take-le n numbers (omega (arith, within)))) within (read numbers n k x low same ∙ is)
  where
    read : (xs : List ℕ) (m j d : ℕ) → j < length (take m xs) → get_or (take m xs) j d ≡ d → get_or xs j 0 ≡ d
    read [] zero j d h e = absurd (omega arith)
    read [] (suc m) j d h e = absurd (omega arith)
    read (x ∷ xs) zero j d h e = absurd (omega arith)
    read (x ∷ xs) (suc m) zero d h e = e
    read (x ∷ xs) (suc m) (suc j) d h e = read xs m j d (omega arith) e

-- what stands at a place is among the first up to behind it
pub contains-take : (numbers : List ℤ) (n k : ℕ) (number : ℤ) → k < n → slice_get numbers k ≡ Some number → Contains (take n numbers) number
contains-take numbers n k number low at =
    (k, omega (arith, low, length-take n numbers, slice_get_within numbers k number at), kept numbers n k low at)
  where
    kept : (ns : List ℤ) (m j : ℕ) → j < m → slice_get ns j ≡ Some number → get_or (take m ns) j number ≡ number
    kept [] m j h e = absurd cc
    kept (x ∷ ns) zero j h e = absurd (omega arith)
    kept (x ∷ ns) (suc m) zero h e = cc
    kept (x ∷ ns) (suc m) (suc j) h e = kept ns m j (omega arith) e

-- what holds of each item holds of one that is contained
pub all-contains : {A : Type 0} (P : A → Type 0) (xs : List A) (x : A) → AllByRecursion P xs → Contains xs x → P x
all-contains P [] x all c = absurd (omega (arith, c.1))
all-contains P (y ∷ xs) x all (zero, few, e) = subst P e all.0
all-contains P (y ∷ xs) x all (suc k, few, e) = all-contains P xs x all.1 (k, omega (arith, few), e)

-- the image of a contained item is contained in the mapped list
pub contains-map : {A B : Type 0} (f : A → B) (xs : List A) (x : A) → Contains xs x → Contains (map f xs) (f x)
contains-map f [] x c = absurd (omega (arith, c.1))
contains-map f (y ∷ xs) x (zero, few, e) = (zero, omega arith, ap f e)
contains-map f (y ∷ xs) x (suc k, few, e) = let rest = contains-map f xs x (k, omega (arith, few), e) in (suc rest.0, omega (arith, rest.1), rest.2)
