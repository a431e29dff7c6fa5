-- What stands at a place of a list: first and behind, in lists laid end to end, and in a mapped list.
use Rattle.std.specs.List.{concat, refill}
use Rattle.std.proofs.Common.{List, None, Some, [], ap, append-nil, arith, drop, drop_of_length-le, get_or, inl, inr, length, map, refl, replicate, slice_get}
use Rattle.std.proofs.Common.{slice_index_or, subst, suc, sym, take}
use Rattle.std.proofs.Common.{take_all, zero, ℕ, ◌++◌, ◌+◌, ◌<◌, ◌∙◌, ◌∷◌, ◌≡◌, ◌⊎◌}
use Rattle.std.proofs.lemmas.Grind.{take_at_read}
use Rattle.std.proofs.lemmas.List.{append_assoc, length-append, take-append-drop}
use Rattle.std.proofs.lemmas.Option.{get_or_from_slice_get, same_Some, slice_get_within}
use Rattle.std.specs.Prelude.{ℤ}
use Rattle.bk_laws.proofs.ListParts.{drop-cons_one_more}

-- equal lists have one first item
pub head_same : {A : Type 0} (x y : A) (xs ys : List A) → x ∷ xs ≡ y ∷ ys → x ≡ y
head_same {A} x y xs ys e = cc

-- equal lists have the same items behind the first
pub tail_same : {A : Type 0} (x y : A) (xs ys : List A) → x ∷ xs ≡ y ∷ ys → xs ≡ ys
tail_same {A} x y xs ys e = cc

-- there is an element at each place below the length
pub get_some : {A : Type 0} (xs : List A) (k : ℕ) → k < length xs → (x : A) × (slice_get xs k ≡ Some x)
get_some [] k h = absurd (omega arith)
get_some (x ∷ xs) zero h = (x, refl)
get_some (x ∷ xs) (suc k) h = get_some xs k (omega arith)

-- what stands at a place of the first list stands there in both, end to end
pub get_append : {A : Type 0} (xs ys : List A) (k : ℕ) (x : A) → slice_get xs k ≡ Some x → slice_get (xs ++ ys) k ≡ Some x
get_append [] ys k x e = absurd (impossible e)
  where
    impossible : None ≡ Some x → ⊥
    impossible f = cc
get_append (w ∷ xs) ys zero x e = e
get_append (w ∷ xs) ys (suc k) x e = get_append xs ys k x e

-- the element between two lists stands at the place after the first
pub get_last : {A : Type 0} (xs : List A) (x : A) (ys : List A) → slice_get (xs ++ x ∷ ys) (length xs) ≡ Some x
get_last [] x ys = refl
get_last (w ∷ xs) x ys = get_last xs x ys

-- the second list begins where the first ends
pub get_after : {A : Type 0} (xs ys : List A) (i j : ℕ) → j ≡ length xs + i → slice_get (xs ++ ys) j ≡ slice_get ys i
get_after [] ys i j e = ap (slice_get ys) same
  where
    same : j ≡ i
    same = omega arith
get_after (x ∷ xs) ys i zero e = absurd (omega arith)
get_after (x ∷ xs) ys i (suc j) e = get_after xs ys i j (omega arith)

-- what two lists have, end to end, stands at its place in the first, or in the second at the place less the first's length
pub get_either : {A : Type 0} (xs ys : List A) (k : ℕ) (x : A) → slice_get (xs ++ ys) k ≡ Some x
    → (slice_get xs k ≡ Some x) ⊎ ((j : ℕ) × (k ≡ length xs + j) × (slice_get ys j ≡ Some x))
get_either [] ys k x e = inr (k, omega arith, e)
get_either (w ∷ xs) ys zero x e = inl e
get_either (w ∷ xs) ys (suc k) x e = one_more (get_either xs ys k x e)
  where
    one_more : (slice_get xs k ≡ Some x) ⊎ ((j : ℕ) × (k ≡ length xs + j) × (slice_get ys j ≡ Some x))
        → (slice_get xs k ≡ Some x) ⊎ ((j : ℕ) × (suc k ≡ length (w ∷ xs) + j) × (slice_get ys j ≡ Some x))
    one_more (inl f) = inl f
    one_more (inr (j, f, g)) = inr (j, omega (arith, f), g)

-- a mapped list has the mapped element
pub get_map : {A B : Type 0} (f : A → B) (xs : List A) (k : ℕ) (x : A) → slice_get xs k ≡ Some x → slice_get (map f xs) k ≡ Some (f x)
get_map f [] k x e = absurd (cc)
get_map f (y ∷ xs) zero x e = let same : y ≡ x = cc in ap (λ z. Some (f z)) same
get_map f (y ∷ xs) (suc k) x e = get_map f xs k x e

-- what stands in the first of two lists, end to end, with a value for places past the end
pub get_front : {A : Type 0} (xs ys : List A) (k : ℕ) (d : A) → k < length xs → slice_index_or (xs ++ ys) k d ≡ slice_index_or xs k d
get_front [] ys k d h = absurd (omega arith)
get_front (x ∷ xs) ys zero d h = refl
get_front (x ∷ xs) ys (suc k) d h = get_front xs ys k d (omega arith)

-- of two lists laid end to end, what stands behind all of the first is what the second has there
pub get_back : {A : Type 0} (xs ys : List A) (k j : ℕ) (d : A) → j ≡ length xs + k → slice_index_or (xs ++ ys) j d ≡ slice_index_or ys k d
get_back [] ys k j d e = λ i. slice_index_or ys (same i) d
  where
    same : j ≡ k
    same = omega arith
get_back (x ∷ xs) ys k zero d e = absurd (omega arith)
get_back (x ∷ xs) ys k (suc j) d e = get_back xs ys k j d (omega arith)

-- a list after a part of it was lent and written is what was written
pub refill-whole : {X : Type 0} (old written : List X) → length written ≡ length old → refill (length old) old written ≡ written
refill-whole {X = X} old written e =
    ap (λ (rest : List X). take (length old) (written ++ rest)) (drop_of_length-le old (omega (arith, e)))
    ∙ ap (take (length old)) (append-nil written) ∙ take_all (length old) written (omega (arith, e))

-- a repeated item stands at each of the places
pub slice_get-replicate : (n c k : ℕ) → k < n → slice_get (replicate n c) k ≡ Some c
slice_get-replicate zero c k low = absurd (omega arith)
slice_get-replicate (suc n) c zero low = refl
slice_get-replicate (suc n) c (suc k) low = slice_get-replicate n c k (omega arith)

-- what stands in two lists at a place of the first stands in the first
pub slice_get-append_front_back : {A : Type 0} (xs ys : List A) (k : ℕ) (x : A) → k < length xs → slice_get (xs ++ ys) k ≡ Some x → slice_get xs k ≡ Some x
slice_get-append_front_back xs ys k x low e = let r = get_some xs k low in r.1 ∙ sym (get_append xs ys k r.0 r.1) ∙ e

-- what stands among repeated items is the item
pub slice_get-replicate_is : (n c k v : ℕ) → slice_get (replicate n c) k ≡ Some v → c ≡ v
slice_get-replicate_is zero c k v e = absurd (cc)
slice_get-replicate_is (suc n) c zero v e = same_Some c v e
slice_get-replicate_is (suc n) c (suc k) v e = slice_get-replicate_is n c k v e

-- what is got from a list that is empty or another one is got from that one
pub slice_get-of_empty_or_same : (s t : List ℕ) → (s ≡ []) ⊎ (s ≡ t) → (i a : ℕ) → slice_get s i ≡ Some a → slice_get t i ≡ Some a
slice_get-of_empty_or_same s t (inr e) i a f = ap (λ (x : List ℕ). slice_get x i) (sym e) ∙ f
slice_get-of_empty_or_same s t (inl e) i a f = absurd (nothing (ap (λ (x : List ℕ). slice_get x i) (sym e) ∙ f))
  where
    nothing : slice_get [] i ≡ Some a → ⊥
    nothing g = cc

-- an item of a list among lists stands in the concatenation behind the lists before
pub slice_get-concat : (segments : List (List ℕ)) (i : ℕ) (s : List ℕ) (k x : ℕ) → slice_get segments i ≡ Some s → slice_get s k ≡ Some x
    → slice_get (concat segments) (length (concat (take i segments)) + k) ≡ Some x
slice_get-concat [] i s k x e f = absurd (cc)
slice_get-concat (t ∷ segments) zero s k x e f = ap (slice_get (t ++ concat segments)) place
    ∙ get_append t (concat segments) k x (subst (λ (u : List ℕ). slice_get u k ≡ Some x) (sym (same_Some t s e)) f)
  where
    place : length (concat (take 0 (t ∷ segments))) + k ≡ k
    place = omega arith
slice_get-concat (t ∷ segments) (suc i) s k x e f = ap (slice_get (t ++ concat segments)) place ∙ behind t (concat segments)
    (length (concat (take i segments)) + k) (slice_get-concat segments i s k x e f)
  where
    place : length (concat (take (suc i) (t ∷ segments))) + k ≡ length t + (length (concat (take i segments)) + k)
    place = omega (arith, length-append t (concat (take i segments)))

    behind : (xs ys : List ℕ) (j : ℕ) → slice_get ys j ≡ Some x → slice_get (xs ++ ys) (length xs + j) ≡ Some x
    behind [] ys j g = ap (slice_get ys) (omega arith) ∙ g
    behind (z ∷ xs) ys j g = ap (slice_get (z ∷ (xs ++ ys))) next ∙ behind xs ys j g
      where
        next : length (z ∷ xs) + j ≡ suc (length xs + j)
        next = omega arith

-- the items of one list more
pub length-concat_take_next : (segments : List (List ℕ)) (i : ℕ) (s : List ℕ) → slice_get segments i ≡ Some s
    → length (concat (take (suc i) segments)) ≡ length (concat (take i segments)) + length s
length-concat_take_next [] i s e = absurd (cc)
length-concat_take_next (t ∷ segments) zero s e = omega (arith, length-append t [], ap length (same_Some t s e))
length-concat_take_next (t ∷ segments) (suc i) s e =
    omega (arith, length-append t (concat (take (suc i) segments)), length-append t (concat (take i segments)), length-concat_take_next segments i s e)

-- nothing is got from an empty list
pub slice_get-empty : {A : Type 0} (i : ℕ) (s : A) → slice_get [] i ≡ Some s → ⊥
slice_get-empty i s e = cc

-- the lists but one stay where that one gives way to others
pub slice_get-others_kept : (lists news : List (List ℕ)) (p i : ℕ) (s : List ℕ) → slice_get lists i ≡ Some s → (i ≡ p → ⊥) → (j : ℕ)
    × (slice_get ((take p lists ++ news) ++ drop (p + 1) lists) j ≡ Some s)
slice_get-others_kept [] news p i s e other = absurd (slice_get-empty i s e)
slice_get-others_kept (x ∷ lists) news zero zero s e other = absurd (other refl)
slice_get-others_kept (x ∷ lists) news zero (suc i) s e other =
    (length news + i, get_after news (drop (0 + 1) (x ∷ lists)) i (length news + i) refl ∙ ap (λ (rest : List (List ℕ)). slice_get rest i) one ∙ e)
  where
    one : drop (0 + 1) (x ∷ lists) ≡ lists
    one = λ j. drop (same j) (x ∷ lists)
      where
        same : 0 + 1 ≡ 1
        same = omega arith
slice_get-others_kept (x ∷ lists) news (suc p) zero s e other = (0, e)
slice_get-others_kept (x ∷ lists) news (suc p) (suc i) s e other = onto (slice_get-others_kept lists news p i s e (λ f. other (ap suc f)))
  where
    onto : (j : ℕ) × (slice_get ((take p lists ++ news) ++ drop (p + 1) lists) j ≡ Some s) → (j : ℕ)
        × (slice_get ((take (suc p) (x ∷ lists) ++ news) ++ drop (suc p + 1) (x ∷ lists)) j ≡ Some s)
    onto (j, f) = (suc j, ap (λ (rest : List (List ℕ)). slice_get ((take p lists ++ news) ++ rest) j) (drop-cons_one_more x lists p) ∙ f)

-- the list that is got at a place is the one that is read there
pub slice_index_or-of_slice_get : (lists : List (List ℕ)) (i : ℕ) (s : List ℕ) → slice_get lists i ≡ Some s → slice_index_or lists i [] ≡ s
slice_index_or-of_slice_get [] i s e = absurd (slice_get-empty i s e)
slice_index_or-of_slice_get (t ∷ lists) zero s e = same_Some t s e
slice_index_or-of_slice_get (t ∷ lists) (suc i) s e = slice_index_or-of_slice_get lists i s e

-- what is got from one list of lists is its first
pub slice_get-only_first : (lists : List (List ℕ)) (i : ℕ) (s : List ℕ) → length lists ≡ 1 → slice_get lists i ≡ Some s → slice_index_or lists 0 [] ≡ s
slice_get-only_first [] i s one e = absurd (omega arith)
slice_get-only_first (t ∷ lists) zero s one e = same_Some t s e
slice_get-only_first (t ∷ []) (suc i) s one e = absurd (slice_get-empty i s e)
slice_get-only_first (t ∷ u ∷ lists) (suc i) s one e = absurd (omega arith)

-- a list with one more at its end keeps what it has
pub slice_get-snoc_before : (xs : List ℕ) (q k : ℕ) → k < length xs → slice_get (xs ++ (q ∷ [])) k ≡ slice_get xs k
slice_get-snoc_before [] q k h = absurd (omega arith)
slice_get-snoc_before (x ∷ xs) q zero h = refl
slice_get-snoc_before (x ∷ xs) q (suc k) h = slice_get-snoc_before xs q k (omega (arith, h))

-- a list with one more at its end has it at the place of the length
pub slice_get-snoc_last : (xs : List ℕ) (q k : ℕ) → k ≡ length xs → slice_get (xs ++ (q ∷ [])) k ≡ Some q
slice_get-snoc_last [] q zero h = refl
slice_get-snoc_last [] q (suc k) h = absurd (omega arith)
slice_get-snoc_last (x ∷ xs) q zero h = absurd (omega arith)
slice_get-snoc_last (x ∷ xs) q (suc k) h = slice_get-snoc_last xs q k (omega (arith, h))

-- what stands from a place on, with the item that is got there
pub drop-cons_slice_get : (xs : List ℕ) (k q : ℕ) → slice_get xs k ≡ Some q → drop k xs ≡ q ∷ drop (suc k) xs
drop-cons_slice_get [] k q e = absurd (cc)
drop-cons_slice_get (x ∷ xs) zero q e = let same : x ≡ q = cc in ap (λ (z : ℕ). z ∷ xs) same
drop-cons_slice_get (x ∷ xs) (suc k) q e = drop-cons_slice_get xs k q e

-- a list of one item has no other
pub slice_get-only_item : (xs : List ℕ) (k q x : ℕ) → length xs ≡ 1 → slice_get xs 0 ≡ Some q → slice_get xs k ≡ Some x → x ≡ q
slice_get-only_item xs zero q x one e f = same_Some x q (sym f ∙ e)
slice_get-only_item xs (suc k) q x one e f = absurd (omega (arith, one, slice_get_within xs (suc k) x f))

-- the first items, with the next one
pub take-snoc_next : {A : Type 0} (xs : List A) (i : ℕ) (x : A) → slice_get xs i ≡ Some x → take (i + 1) xs ≡ take i xs ++ x ∷ []
take-snoc_next xs i x e = (take_at_read xs i x (slice_get_within xs i x e)).1 ∙ ap (λ y. take i xs ++ y ∷ []) (get_or_from_slice_get xs i x x e)

-- a list is its first items, the next one and those behind it
pub take-cons_drop : {A : Type 0} (xs : List A) (i : ℕ) (x : A) → slice_get xs i ≡ Some x → xs ≡ take i xs ++ x ∷ drop (i + 1) xs
take-cons_drop xs i x e = sym (take-append-drop (i + 1) xs) ∙ ap (λ l. l ++ drop (i + 1) xs) (take-snoc_next xs i x e)
    ∙ append_assoc (take i xs) (x ∷ []) (drop (i + 1) xs)

-- one of the first numbers stands at its place
pub slice_get-from_take : (numbers : List ℤ) (n k : ℕ) (number : ℤ) → k < length (take n numbers) → get_or (take n numbers) k number ≡ number
    → slice_get numbers k ≡ Some number
slice_get-from_take [] zero k number low same = absurd (omega arith)
slice_get-from_take [] (suc n) k number low same = absurd (omega arith)
slice_get-from_take (x ∷ numbers) zero k number low same = absurd (omega arith)
slice_get-from_take (x ∷ numbers) (suc n) zero number low same = ap Some same
slice_get-from_take (x ∷ numbers) (suc n) (suc k) number low same = slice_get-from_take numbers n k number (omega arith) same

-- what is got from a list with one more at its end stands before it, or is it
pub slice_get-snoc_cases : {A : Type 0} (xs : List A) (x : A) (k : ℕ) (y : A) → slice_get (xs ++ x ∷ []) k ≡ Some y
    → ((k < length xs) × (slice_get xs k ≡ Some y)) ⊎ ((k ≡ length xs) × (x ≡ y))
slice_get-snoc_cases [] x zero y e = inr (refl, cc)
slice_get-snoc_cases [] x (suc k) y e = absurd (cc)
slice_get-snoc_cases (w ∷ xs) x zero y e = inl (omega arith, e)
slice_get-snoc_cases (w ∷ xs) x (suc k) y e = cases (slice_get-snoc_cases xs x k y e)
  where
    cases : ((k < length xs) × (slice_get xs k ≡ Some y)) ⊎ ((k ≡ length xs) × (x ≡ y))
        → ((suc k < length (w ∷ xs)) × (slice_get (w ∷ xs) (suc k) ≡ Some y)) ⊎ ((suc k ≡ length (w ∷ xs)) × (x ≡ y))
    cases (inl h) = inl (omega (arith, h.0), h.1)
    cases (inr h) = inr (omega (arith, h.0), h.1)

-- what is got at one place is one item
pub slice_get-unique : {A : Type 0} (xs : List A) (k : ℕ) (x y : A) → slice_get xs k ≡ Some x → slice_get xs k ≡ Some y → x ≡ y
slice_get-unique xs k x y e f = inside (sym e ∙ f)
  where
    inside : Some x ≡ Some y → x ≡ y
    inside g = cc
