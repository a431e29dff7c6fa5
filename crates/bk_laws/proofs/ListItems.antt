-- What is read at a place of a list, with a value for places past its end.
use Rattle.std.specs.List.{concat, position_or_len}
use Rattle.std.specs.Prelude.{if◌then◌else◌, int_div, negsuc, pos, ℤ, ◌*ℤ◌, ◌-ℤ◌, ◌-◌, ◌==◌, ◌≢◌, ◌≤ℤ◌}
use Rattle.std.proofs.Common.{Bool, List, [], add-one, ap, append-nil, arith, drop, false, get_or, inl, inr, length, length-take, map, refl, replicate, set}
use Rattle.std.proofs.Common.{slice_index, slice_index_or, subst, suc, sym, take, true, zero, ℕ, ◌++◌, ◌+◌, ◌<◌, ◌∙◌, ◌∷◌, ◌≡◌, ◌≤◌, ◌⊎◌}
use Rattle.std.proofs.Math.Seq.{drop-cons}
use Rattle.std.proofs.lemmas.Bool.{both_ways, cases_eq, cases_lt}
use Rattle.std.proofs.lemmas.Bool.Decides.{nat_tests}
use Rattle.std.proofs.lemmas.Int.{ints}
use Rattle.std.proofs.lemmas.List.{append_assoc, drop-set-lt, get_or-drop, get_or-set_other, get_or-set_same, get_or-take, get_or_default, length-drop}
use Rattle.std.proofs.lemmas.List.{take_rest}
use Rattle.std.proofs.lemmas.List.Sums.{fails_before_first}
use Rattle.bk_laws.proofs.ListParts.{take-set_append}
use Rattle.bk_laws.proofs.ListPlaces.{head_same, tail_same}
use Rattle.bk_laws.proofs.WholeNumbers.{cancel_right}

-- two lists whose multiples by a positive number are the same are the same
pub map-cancel_positive : (t : ℤ) (cs ds : List ℤ) → pos 1 ≤ℤ t → map (λ c. c *ℤ t) ds ≡ map (λ c. c *ℤ t) cs → cs ≡ ds
map-cancel_positive t [] [] some e = refl
map-cancel_positive t [] (d ∷ ds) some e = absurd cc
map-cancel_positive t (c ∷ cs) [] some e = absurd cc
map-cancel_positive t (c ∷ cs) (d ∷ ds) some e = λ i. first t some (sym (head_same _ _ _ _ e)) i ∷ map-cancel_positive t cs ds some (tail_same _ _ _ _ e) i
  where
    first : (t : ℤ) → pos 1 ≤ℤ t → c *ℤ t ≡ d *ℤ t → c ≡ d
    first (pos n) some e = cancel_right n c d (omega (arith, ints, some)) e
    first (negsuc n) some e = absurd (omega (arith, ints, some))

-- a list of at least one item is the first and the rest
pub cons-first_and_rest : {A : Type 0} (l : List A) (a : A) → 1 ≤ length l → a ≡ get_or l 0 a → l ≡ a ∷ take (length l - 1) (drop 1 l)
cons-first_and_rest [] a one is = absurd (omega arith)
cons-first_and_rest (x ∷ xs) a one is = rw (take_rest (x ∷ xs) 1) (ap (λ z. z ∷ xs) (sym is))

-- a list of at least two items is the first, the second and the rest, cut to what is left
pub cons-first_two_and_rest : {A : Type 0} (l : List A) (a : A) → 2 ≤ length l → a ≡ get_or l 0 a → l ≡ a ∷ get_or l 1 a ∷ take (length l - 2) (drop 2 l)
cons-first_two_and_rest [] a two is = absurd (omega arith)
cons-first_two_and_rest (x ∷ []) a two is = absurd (omega arith)
cons-first_two_and_rest (x ∷ y ∷ ys) a two is = rw (take_rest (x ∷ y ∷ ys) 2) (ap (λ z. z ∷ y ∷ ys) (sym is))

-- a list of at least two items is the first, the second and what is left
pub cons-two_and_drop : {A : Type 0} (l : List A) (a b : A) → 2 ≤ length l → a ≡ get_or l 0 a → b ≡ get_or l 1 b → l ≡ a ∷ b ∷ drop 2 l
cons-two_and_drop [] a b two is next = absurd (omega arith)
cons-two_and_drop (x ∷ []) a b two is next = absurd (omega arith)
cons-two_and_drop (x ∷ y ∷ ys) a b two is next = λ i. sym is i ∷ sym next i ∷ ys

-- a place at which a list of tests is true lies within it
pub slice_index_or-true_within : (xs : List Bool) (k : ℕ) → slice_index_or xs k false ≡ true → k < length xs
slice_index_or-true_within [] k e = absurd (cc)
slice_index_or-true_within (x ∷ xs) zero e = omega arith
slice_index_or-true_within (x ∷ xs) (suc k) e = omega (arith, slice_index_or-true_within xs k e)

-- what stands one place further in a list with one more before it
pub get_or-cons_one_more : (start : ℕ) (starts : List ℕ) (g : ℕ) → get_or (start ∷ starts) (g + 1) 0 ≡ get_or starts g 0
get_or-cons_one_more start starts g = ap (λ n. get_or (start ∷ starts) n 0) next
  where
    next : g + 1 ≡ suc g
    next = omega arith

-- an item read with itself for a default is the item
pub get_or-itself : {X : Type 0} (xs : List X) (k : ℕ) (d : X) → k < length xs → get_or xs k (get_or xs k d) ≡ get_or xs k d
get_or-itself xs k d h = get_or_default xs k (get_or xs k d) d h

-- two lists of one length with the same items are the same
pub get_or-extensionality : {X : Type 0} (xs ys : List X) (d : X) → length xs ≡ length ys → ((j : ℕ) → j < length xs → get_or xs j d ≡ get_or ys j d) → xs ≡ ys
get_or-extensionality [] [] d e each = refl
get_or-extensionality [] (y ∷ ys) d e each = absurd (omega arith)
get_or-extensionality (x ∷ xs) [] d e each = absurd (omega arith)
get_or-extensionality (x ∷ xs) (y ∷ ys) d e each =
    λ i. each zero (omega arith) i ∷ get_or-extensionality xs ys d (omega arith) (λ j h. each (suc j) (omega arith)) i

-- numbers that are 0 between the first and the last, looked up in the whole list
pub get_or-zero_between : (outs : List ℤ) (n : ℕ) → n ≤ length outs → ((k : ℕ) → k < length (take (n - 1 - 1) (drop 1 outs))
    → get_or (take (n - 1 - 1) (drop 1 outs)) k (pos 0) ≡ pos 0) → (v : ℕ) → 0 < v → v + 1 < n → get_or outs v (pos 0) ≡ pos 0
get_or-zero_between outs n long none v some more = ap (λ (k : ℕ). get_or outs k (pos 0)) next ∙ sym (get_or-drop 1 outs (v - 1) (pos 0))
    ∙ sym (get_or-take (n - 1 - 1) (drop 1 outs) (v - 1) (pos 0) within)
    ∙ none (v - 1) (omega (arith, within, length-take (n - 1 - 1) (drop 1 outs), length-drop 1 outs, long))
  where
    next : v ≡ 1 + (v - 1)
    next = omega (arith, some)

    within : v - 1 < n - 1 - 1
    within = omega (arith, some, more)

-- after a number was put at a place, it stands there and the others stay
pub get_or-set_if : (xs : List ℤ) (f v : ℕ) (a : ℤ) → f < length xs → get_or (set xs f a) v (pos 0) ≡ (if f == v then a else get_or xs v (pos 0))
get_or-set_if xs f v a h = by (cases_eq f v)
  where
    by : ((f ≡ v) ⊎ (f ≢ v)) → get_or (set xs f a) v (pos 0) ≡ (if f == v then a else get_or xs v (pos 0))
    by (inl e) = subst (λ (n : ℕ). get_or (set xs f a) n (pos 0) ≡ (if f == n then a else get_or xs n (pos 0))) e
        (get_or-set_same xs f a (pos 0) h ∙ here f (get_or xs f (pos 0)))
      where
        here : (n : ℕ) (z : ℤ) → a ≡ (if n == n then a else z)
        here n z = grind (arith, nat_tests)
    by (inr differ) = get_or-set_other xs f v a (pos 0) (λ e. differ (sym e)) ∙ there (get_or xs v (pos 0))
      where
        there : (z : ℤ) → z ≡ (if f == v then a else z)
        there z = grind (arith, nat_tests)

-- one more at a place is at most one more anywhere
pub get_or-set_one_more_le : (counts : List ℕ) (i u : ℕ) → i < length counts → get_or (set counts i (get_or counts i 0 + 1)) u 0 ≤ get_or counts u 0 + 1
get_or-set_one_more_le counts i u h = at (cases_eq u i)
  where
    at : (u ≡ i) ⊎ (u ≡ i → ⊥) → get_or (set counts i (get_or counts i 0 + 1)) u 0 ≤ get_or counts u 0 + 1
    at (inl same) = rw same (omega (arith, get_or-set_same counts i (get_or counts i 0 + 1) 0 h))
    at (inr other) = omega (arith, get_or-set_other counts i u (get_or counts i 0 + 1) 0 other)

-- the last item of a list with one more at its end
pub slice_index_or-snoc_last : (rs : List ℤ) (x : ℤ) (k : ℕ) (d : ℤ) → k ≡ length rs → slice_index_or (rs ++ x ∷ []) k d ≡ x
slice_index_or-snoc_last [] x zero d e = refl
slice_index_or-snoc_last [] x (suc k) d e = absurd (omega (arith, e))
slice_index_or-snoc_last (r ∷ rs) x zero d e = absurd (omega (arith, e))
slice_index_or-snoc_last (r ∷ rs) x (suc k) d e = slice_index_or-snoc_last rs x k d (omega (arith, e))

-- two functions with the same drops along all wires have the same drop along each
pub slice_index_or-same_drops : (f g : ℕ → ℤ) (wires : List (ℕ × ℕ)) (k : ℕ) (d : ℕ × ℕ)
    → map (λ (w : ℕ × ℕ). f w.0 -ℤ f w.1) wires ≡ map (λ (w : ℕ × ℕ). g w.0 -ℤ g w.1) wires → k < length wires
    → f (slice_index_or wires k d).0 -ℤ f (slice_index_or wires k d).1 ≡ g (slice_index_or wires k d).0 -ℤ g (slice_index_or wires k d).1
slice_index_or-same_drops f g [] k d e h = absurd (omega arith)
slice_index_or-same_drops f g (w ∷ wires) zero d e h = cc
slice_index_or-same_drops f g (w ∷ wires) (suc k) d e h = slice_index_or-same_drops f g wires k d (cc) (omega arith)

-- what stands from a place on is the item there and what stands behind it
pub drop-cons_get_or : {A : Type 0} (xs : List A) (i : ℕ) (x : A) → i < length xs → x ≡ get_or xs i x → drop i xs ≡ x ∷ drop (i + 1) xs
drop-cons_get_or {A} xs i x h is = drop-cons xs i x h ∙ (λ j. sym is j ∷ drop (sym (add-one i) j) xs)

-- numbers divided up to a place, and one more of them
pub take-set_quotient_step : (g : ℕ) (ws zs : List ℤ) (i : ℕ) (z : ℤ) → i < length ws → z ≡ get_or ws i z
    → take i ws ++ map (λ n. int_div n (pos g)) (drop i ws) ≡ zs → take (i + 1) (set ws i (int_div z (pos g)))
    ++ map (λ n. int_div n (pos g)) (drop (i + 1) (set ws i (int_div z (pos g)))) ≡ zs
take-set_quotient_step g ws zs i z h is e = ap (λ (ys : List ℤ). take (i + 1) (set ws i (int_div z (pos g))) ++ map (λ n. int_div n (pos g)) ys)
    (drop-set-lt (i + 1) ws i (int_div z (pos g)) (omega arith)) ∙ take-set_append ws i (int_div z (pos g))
    (map (λ n. int_div n (pos g)) (drop (i + 1) ws)) h ∙ ap (λ (ys : List ℤ). take i ws ++ map (λ n. int_div n (pos g)) ys) (sym (drop-cons_get_or ws i z h is))
    ∙ e

-- an item within a list is the same whatever the default
pub get_or-any_default : (zs : List ℤ) (i : ℕ) (d : ℤ) → i < length zs → get_or zs i d ≡ get_or zs i (get_or zs i d)
get_or-any_default zs i d h = get_or_default zs i d (get_or zs i d) h

-- of one list, its items are all items
pub length-only_list : (segments : List (List ℕ)) → length segments ≡ 1 → length (slice_index_or segments 0 []) ≡ length (concat segments)
length-only_list [] e = absurd (omega (arith, e))
length-only_list (s ∷ []) e = ap length (sym (append-nil s))
length-only_list (s ∷ t ∷ segments) e = absurd (omega (arith, e))

-- the value for places past the end of a list is read there
pub slice_index_or-beyond : (xs : List ℕ) (k d : ℕ) → length xs ≤ k → slice_index_or xs k d ≡ d
slice_index_or-beyond [] k d h = refl
slice_index_or-beyond (x ∷ xs) zero d h = absurd (omega (arith, h))
slice_index_or-beyond (x ∷ xs) (suc k) d h = slice_index_or-beyond xs k d (omega (arith, h))

-- within a list any other value for places past its end reads the same
pub slice_index_or-any_default : {A : Type 0} (xs : List A) (k : ℕ) (d e : A) → k < length xs → slice_index_or xs k d ≡ slice_index_or xs k e
slice_index_or-any_default [] k d e h = absurd (omega (arith, h))
slice_index_or-any_default (x ∷ xs) zero d e h = refl
slice_index_or-any_default (x ∷ xs) (suc k) d e h = slice_index_or-any_default xs k d e (omega (arith, h))

-- the length of the first list, by the lengths
pub slice_index_or-first_length : (segments : List (List ℕ)) → slice_index_or (map (λ (s : List ℕ). length s) segments) 0 0 ≡ length
    (slice_index_or segments 0 [])
slice_index_or-first_length [] = refl
slice_index_or-first_length (s ∷ segments) = refl

-- the concatenation of one list is that list
pub concat-only_list : (segments : List (List ℕ)) → length segments ≡ 1 → concat segments ≡ slice_index_or segments 0 []
concat-only_list [] one = absurd (omega arith)
concat-only_list (s ∷ []) one = append-nil s
concat-only_list (s ∷ t ∷ segments) one = absurd (omega arith)

-- the first of lists whose images are one list has that image
pub map-only_list : (f : ℕ → ℕ) (segments : List (List ℕ)) (s : List ℕ) → map (map f) segments ≡ s ∷ [] → map f (slice_index_or segments 0 []) ≡ s
map-only_list f [] s e = absurd (omega (arith, ap length e))
map-only_list f (x ∷ segments) s e = ap (λ (y : List (List ℕ)). slice_index_or y 0 []) e

-- a place at which a repeated test is true lies among the repeated, and the test is true
pub slice_index_or-replicate_true : (c : ℕ) (z : Bool) (k : ℕ) → slice_index_or (replicate c z) k false ≡ true → (k < c) × (z ≡ true)
slice_index_or-replicate_true zero z k e = absurd (none k e)
  where
    none : (k : ℕ) → slice_index_or [] k false ≡ true → ⊥
    none k e = cc
slice_index_or-replicate_true (suc c) z zero e = (omega arith, e)
slice_index_or-replicate_true (suc c) z (suc k) e = let r = slice_index_or-replicate_true c z k e in (omega (arith, r.0), r.1)

-- where a list of tests with one and repeated ones behind it is true
pub slice_index_or-appended_true : (lines : List Bool) (b : Bool) (c : ℕ) (z : Bool) (k : ℕ) → slice_index_or (lines ++ b ∷ replicate c z) k false ≡ true
    → (slice_index_or lines k false ≡ true) ⊎ ((k ≡ length lines) × (b ≡ true)) ⊎ ((j : ℕ) × (k ≡ length lines + suc j) × (j < c) × (z ≡ true))
slice_index_or-appended_true [] b c z zero e = inr (inl (refl, e))
slice_index_or-appended_true [] b c z (suc k) e = let r = slice_index_or-replicate_true c z k e in inr (inr (k, omega arith, r.0, r.1))
slice_index_or-appended_true (x ∷ lines) b c z zero e = inl e
slice_index_or-appended_true (x ∷ lines) b c z (suc k) e = onto (slice_index_or-appended_true lines b c z k e)
  where
    onto : (slice_index_or lines k false ≡ true) ⊎ ((k ≡ length lines) × (b ≡ true)) ⊎ ((j : ℕ) × (k ≡ length lines + suc j) × (j < c) × (z ≡ true))
        → (slice_index_or lines k false ≡ true) ⊎ ((suc k ≡ suc (length lines)) × (b ≡ true))
        ⊎ ((j : ℕ) × (suc k ≡ suc (length lines) + suc j) × (j < c) × (z ≡ true))
    onto (inl f) = inl f
    onto (inr (inl (f, g))) = inr (inl (ap suc f, g))
    onto (inr (inr (j, f, g, h))) = inr (inr (j, omega (arith, f), g, h))

-- what stands behind the first of two lists
pub slice_index_or-append_at_length : (base : List (ℕ × ℕ)) (p : ℕ × ℕ) (more : List (ℕ × ℕ)) (h : ℕ) → length base ≡ h → slice_index_or (base ++ p ∷ more) h
    (0, 1) ≡ p
slice_index_or-append_at_length [] p more zero e = refl
slice_index_or-append_at_length [] p more (suc h) e = absurd (omega arith)
slice_index_or-append_at_length (x ∷ base) p more zero e = absurd (omega arith)
slice_index_or-append_at_length (x ∷ base) p more (suc h) e = slice_index_or-append_at_length base p more h (omega arith)

-- what stands first behind a list, at the place of the length
pub slice_index_or-append_here : (xs : List ℕ) (y : ℕ) (ys : List ℕ) (k : ℕ) → k ≡ length xs → slice_index_or (xs ++ y ∷ ys) k 0 ≡ y
slice_index_or-append_here [] y ys zero e = refl
slice_index_or-append_here [] y ys (suc k) e = absurd (omega arith)
slice_index_or-append_here (x ∷ xs) y ys zero e = absurd (omega arith)
slice_index_or-append_here (x ∷ xs) y ys (suc k) e = slice_index_or-append_here xs y ys k (omega arith)

-- two lists of one length with the same numbers are the same
pub slice_index-extensionality : (xs ys : List ℕ) → length xs ≡ length ys → ((k : ℕ) → k < length xs → slice_index xs k ≡ slice_index ys k) → xs ≡ ys
slice_index-extensionality [] [] e f = refl
slice_index-extensionality [] (y ∷ ys) e f = absurd (omega arith)
slice_index-extensionality (x ∷ xs) [] e f = absurd (omega arith)
slice_index-extensionality (x ∷ xs) (y ∷ ys) e f =
    (λ i. f 0 (omega arith) i ∷ slice_index-extensionality xs ys (omega arith) (λ k h. f (suc k) (omega arith)) i)

-- a number among the first ones is read as in the whole list
pub slice_index-take : (n : ℕ) (xs : List ℕ) (k : ℕ) → k < n → slice_index (take n xs) k ≡ slice_index xs k
slice_index-take zero xs k h = absurd (omega arith)
slice_index-take (suc n) [] k h = refl
slice_index-take (suc n) (x ∷ xs) zero h = refl
slice_index-take (suc n) (x ∷ xs) (suc k) h = slice_index-take n xs k (omega arith)

-- how many items the list at a place has, and none past the last list
pub slice_index-map_length : (lists : List (List ℕ)) (n : ℕ) → slice_index (map length lists) n ≡ length (slice_index_or lists n [])
slice_index-map_length [] n = refl
slice_index-map_length (s ∷ lists) zero = refl
slice_index-map_length (s ∷ lists) (suc n) = slice_index-map_length lists n

-- the length of the list between others
pub slice_index-map_length_middle : (front : List (List ℕ)) (s : List ℕ) (back : List (List ℕ)) (n : ℕ) → length front ≡ n → slice_index
    (map length (front ++ s ∷ back)) n ≡ length s
slice_index-map_length_middle [] s back zero e = refl
slice_index-map_length_middle [] s back (suc n) e = absurd (omega arith)
slice_index-map_length_middle (t ∷ front) s back zero e = absurd (omega arith)
slice_index-map_length_middle (t ∷ front) s back (suc n) e = slice_index-map_length_middle front s back n (omega arith)

-- a number within a list is the same with 0 or another value for places past the end
pub get_or-zero_or_any_default : (numbers : List ℕ) (k d : ℕ) → k < length numbers → get_or numbers k 0 ≡ get_or numbers k d
get_or-zero_or_any_default [] k d h = absurd (omega arith)
get_or-zero_or_any_default (x ∷ xs) zero d h = refl
get_or-zero_or_any_default (x ∷ xs) (suc k) d h = get_or-zero_or_any_default xs k d (omega arith)

-- the first place that passes a test comes no later than one that does
pub position_or_len-below : {X : Type 0} (p : X → Bool) (xs : List X) (k : ℕ) (d : X) → k < length xs → p (get_or xs k d) ≡ true → position_or_len p xs < length
    xs
position_or_len-below p xs k d few e = elim (cases_lt k (position_or_len p xs)) [
  | inl h ↦ absurd (both_ways (p (get_or xs k d)) (fails_before_first p xs k d h) e)
  | inr h ↦ omega arith
]

-- the list between two others, at the place of the length
pub get_or-append_at_length : (front : List (List ℕ)) (here : List ℕ) (back : List (List ℕ)) → get_or (front ++ here ∷ back) (length front) [] ≡ here
get_or-append_at_length [] here back = λ i. here
get_or-append_at_length (s ∷ front) here back = get_or-append_at_length front here back

-- past the last list the empty one is read
pub get_or-past_lists : (segments : List (List ℕ)) (i : ℕ) → length segments ≤ i → get_or segments i [] ≡ []
get_or-past_lists [] i h = λ j. []
get_or-past_lists (s ∷ segments) zero h = absurd (omega arith)
get_or-past_lists (s ∷ segments) (suc i) h = get_or-past_lists segments i (omega arith)

-- the second of two lists begins where the first ends
pub get_or-append_back : (a b : List ℕ) (i : ℕ) → get_or (a ++ b) (length a + i) 0 ≡ get_or b i 0
get_or-append_back [] b i = let e : 0 + i ≡ i = omega arith in ap (λ (n : ℕ). get_or b n 0) e
get_or-append_back (x ∷ a) b i =
    let e : length (x ∷ a) + i ≡ suc (length a + i) = omega arith in ap (λ (n : ℕ). get_or (x ∷ a ++ b) n 0) e ∙ get_or-append_back a b i

-- the last of a list with one more at its end
pub get_or-snoc_last : (front : List ℕ) (b : ℕ) → get_or (front ++ b ∷ []) (length front) 0 ≡ b
get_or-snoc_last [] b = refl
get_or-snoc_last (x ∷ front) b = get_or-snoc_last front b

-- what stands in the first of two lists
pub get_or-append_front : (a b : List ℕ) (i : ℕ) → i < length a → get_or (a ++ b) i 0 ≡ get_or a i 0
get_or-append_front [] b i within = absurd (omega arith)
get_or-append_front (x ∷ a) b zero within = refl
get_or-append_front (x ∷ a) b (suc i) within = get_or-append_front a b i (omega arith)

-- the concatenation of lists, cut at one of them
pub concat-cut_at : (p : ℕ) (lists : List (List ℕ)) → concat lists ≡ concat (take p lists) ++ (slice_index_or lists p [] ++ concat (drop (suc p) lists))
concat-cut_at zero [] = refl
concat-cut_at (suc p) [] = refl
concat-cut_at zero (numbers ∷ lists) = refl
concat-cut_at (suc p) (numbers ∷ lists) = ap (λ (ns : List ℕ). numbers ++ ns) (concat-cut_at p lists)
    ∙ sym (append_assoc numbers (concat (take p lists)) (slice_index_or lists p [] ++ concat (drop (suc p) lists)))

-- the item at a place of a mapped list is the image
pub slice_index_or-map : {A B : Type 0} (g : A → B) (xs : List A) (k : ℕ) (d : B) (e : A) → k < length xs → slice_index_or (map g xs) k d ≡ g
    (slice_index_or xs k e)
slice_index_or-map g [] k d e h = absurd (omega arith)
slice_index_or-map g (x ∷ xs) zero d e h = refl
slice_index_or-map g (x ∷ xs) (suc k) d e h = slice_index_or-map g xs k d e (omega arith)

-- a repeated number at a place
pub slice_index_or-replicate : (n x k d : ℕ) → k < n → slice_index_or (replicate n x) k d ≡ x
slice_index_or-replicate zero x k d h = absurd (omega arith)
slice_index_or-replicate (suc n) x zero d h = refl
slice_index_or-replicate (suc n) x (suc k) d h = slice_index_or-replicate n x k d (omega arith)

-- a list of one item repeated has this item at each place, and as its default past the end
pub get_or-replicate_default : {X : Type 0} (n k : ℕ) (x : X) → get_or (replicate n x) k x ≡ x
get_or-replicate_default zero k x = refl
get_or-replicate_default (suc n) zero x = refl
get_or-replicate_default (suc n) (suc k) x = get_or-replicate_default n k x
