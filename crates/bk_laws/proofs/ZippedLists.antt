-- Two lists of one length whose elements are related place by place.
use Rattle.std.specs.List.{AllZip, enumerate_from}
use Rattle.std.proofs.Common.{List, Some, [], ap, arith, drop, get_or, length, map, refl, replicate, slice_get, slice_index_or, subst, suc, take, zero, zip, ℕ}
use Rattle.std.proofs.Common.{◌++◌, ◌<◌, ◌∷◌, ◌≡◌, ◌≤◌}
use Rattle.std.proofs.lemmas.List.{drop_more}
use Rattle.std.specs.Prelude.{◌+◌}

-- two pairs of related lists are related end to end
pub zip_append : {A B : Type 0} (R : A → B → Type 0) (xs ys : List A) (us vs : List B)
    → AllZip R xs us → AllZip R ys vs → AllZip R (xs ++ ys) (us ++ vs)
zip_append R [] ys [] vs a b = b
zip_append R [] ys (u ∷ us) vs a b = absurd a
zip_append R (x ∷ xs) ys [] vs a b = absurd a
zip_append R (x ∷ xs) ys (u ∷ us) vs a b = (a.0, zip_append R xs ys us vs a.1 b)

-- lists that a relation relates are related by one that says less
pub zip_map : {A B : Type 0} (R S : A → B → Type 0) → ((x : A) (u : B) → R x u → S x u)
    → (xs : List A) (us : List B) → AllZip R xs us → AllZip S xs us
zip_map R S f [] [] a = tt
zip_map R S f [] (u ∷ us) a = absurd a
zip_map R S f (x ∷ xs) [] a = absurd a
zip_map R S f (x ∷ xs) (u ∷ us) a = (f x u a.0, zip_map R S f xs us a.1)

-- related lists have one length
pub zip_length : {A B : Type 0} (R : A → B → Type 0) (xs : List A) (us : List B) → AllZip R xs us → length xs ≡ length us
zip_length R [] [] z = refl
zip_length R [] (y ∷ ys) z = absurd z
zip_length R (x ∷ xs) [] z = absurd z
zip_length R (x ∷ xs) (y ∷ ys) z = ap suc (zip_length R xs ys z.1)

-- what stands before a place is related to what stands before it in the other list
pub zip_before : {A B : Type 0} (R : A → B → Type 0) (xs : List A) (x : A) (ys : List A) (us : List B)
    → AllZip R (xs ++ x ∷ ys) us → AllZip R xs (take (length xs) us)
zip_before R [] x ys us z = tt
zip_before R (w ∷ xs) x ys [] z = absurd z
zip_before R (w ∷ xs) x ys (u ∷ us) z = (z.0, zip_before R xs x ys us z.1)

-- an element and the one at its place in the other list are related
pub zip_at : {A B : Type 0} (R : A → B → Type 0) (xs : List A) (x : A) (ys : List A) (us : List B) (d : B)
    → AllZip R (xs ++ x ∷ ys) us → R x (slice_index_or us (length xs) d)
zip_at R [] x ys [] d z = absurd z
zip_at R [] x ys (u ∷ us) d z = z.0
zip_at R (w ∷ xs) x ys [] d z = absurd z
zip_at R (w ∷ xs) x ys (u ∷ us) d z = zip_at R xs x ys us d z.1

-- what stands behind a place is related to what stands behind it in the other list
pub zip_after : {A B : Type 0} (R : A → B → Type 0) (xs : List A) (x : A) (ys : List A) (us : List B)
    → AllZip R (xs ++ x ∷ ys) us → AllZip R ys (drop (suc (length xs)) us)
zip_after R [] x ys [] z = absurd z
zip_after R [] x ys (u ∷ us) z = z.1
zip_after R (w ∷ xs) x ys [] z = absurd z
zip_after R (w ∷ xs) x ys (u ∷ us) z = zip_after R xs x ys us z.1

-- two lists side by side from a place on are the two items there and what is behind
pub zip-drop_step : {X Y : Type 0} (xs : List X) (ys : List Y) (i : ℕ) (d : X) (e : Y) → i < length xs → i < length ys
    → zip (drop i xs) (drop i ys) ≡ (get_or xs i d, get_or ys i e) ∷ zip (drop (i + 1) xs) (drop (i + 1) ys)
zip-drop_step {X} {Y} xs ys i d e hx hy = λ j. zip (drop_more xs i d hx j) (drop_more ys i e hy j)

-- a numbered list from a place on is the item there with its place and what is behind
pub enumerate_from-drop_step : {X : Type 0} (xs : List X) (i : ℕ) (d : X) → i < length xs
    → enumerate_from i (drop i xs) ≡ (i, get_or xs i d) ∷ enumerate_from (i + 1) (drop (i + 1) xs)
enumerate_from-drop_step xs i d h = ap (enumerate_from i) (drop_more xs i d h)

-- items of two lists that go together, at a place
pub all_zip-slice_index_or : (R : ℕ → ℕ → Type 0) (xs ys : List ℕ) (k : ℕ) → AllZip R xs ys → k < length xs → R (slice_index_or xs k 0) (slice_index_or ys k 0)
all_zip-slice_index_or R [] ys k z h = absurd (omega arith)
all_zip-slice_index_or R (x ∷ xs) [] k z h = absurd z
all_zip-slice_index_or R (x ∷ xs) (y ∷ ys) zero z h = z.0
all_zip-slice_index_or R (x ∷ xs) (y ∷ ys) (suc k) z h = all_zip-slice_index_or R xs ys k z.1 (omega arith)

-- one item beside each of the first items of a list
pub zip-replicate_take : (node count : ℕ) (ends : List ℕ) → count ≤ length ends → zip (replicate count node) (take count ends) ≡ map (λ e. (node, e))
    (take count ends)
zip-replicate_take node zero ends h = refl
zip-replicate_take node (suc count) [] h = absurd (omega arith)
zip-replicate_take node (suc count) (e ∷ ends) h = ap (λ (l : List (ℕ × ℕ)). (node, e) ∷ l) (zip-replicate_take node count ends (omega arith))

-- two pairs of lists side by side, end to end
pub zip-append : {A B : Type 0} (xs : List A) (us : List B) (ys : List A) (vs : List B) → length xs ≡ length us → zip (xs ++ ys) (us ++ vs) ≡ zip xs us ++ zip
    ys vs
zip-append [] [] ys vs e = refl
zip-append [] (u ∷ us) ys vs e = absurd (omega arith)
zip-append (x ∷ xs) [] ys vs e = absurd (omega arith)
zip-append {A = A} {B = B} (x ∷ xs) (u ∷ us) ys vs e = ap (λ (l : List (A × B)). (x, u) ∷ l) (zip-append xs us ys vs (omega arith))

-- an item that is got, and the one at its place in the other list, go together
pub all_zip-slice_get : {A B : Type 0} (R : A → B → Type 0) (xs : List A) (us : List B) (k : ℕ) (x : A) (d : B) → AllZip R xs us
    → slice_get xs k ≡ Some x → R x (slice_index_or us k d)
all_zip-slice_get R [] us k x d z e = absurd (cc)
all_zip-slice_get R (w ∷ xs) [] k x d z e = absurd z
all_zip-slice_get R (w ∷ xs) (u ∷ us) zero x d z e = let same : w ≡ x = cc in subst (λ y. R y u) same z.0
all_zip-slice_get R (w ∷ xs) (u ∷ us) (suc k) x d z e = all_zip-slice_get R xs us k x d z.1 e
