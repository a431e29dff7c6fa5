-- Lists of lists, their lengths and their concatenation.
use Rattle.std.specs.List.{concat}
use Rattle.std.specs.Prelude.{flat_map}
use Rattle.std.proofs.Common.{List, [], ap, arith, drop, length, map, refl, suc, sym, take, zero, ℕ, ◌++◌, ◌∙◌, ◌∷◌, ◌≡◌, ◌≤◌}
use Rattle.std.proofs.lemmas.Grind.{flat_map-append}

-- the lengths behind the first ones are those of the lists behind
pub drop-map_length : (n : ℕ) (xs : List (List ℕ)) → drop n (map (λ (s : List ℕ). length s) xs) ≡ map (λ (s : List ℕ). length s) (drop n xs)
drop-map_length zero xs = refl
drop-map_length (suc n) [] = refl
drop-map_length (suc n) (x ∷ xs) = drop-map_length n xs

-- no list has no items
pub concat-take_none : (segments : List (List ℕ)) (p : ℕ) → p ≡ 0 → concat (take p segments) ≡ []
concat-take_none segments p e = ap (λ (k : ℕ). concat (take k segments)) e

-- behind the last list there is no item
pub concat-drop_all : (segments : List (List ℕ)) (p : ℕ) → length segments ≤ p → concat (drop p segments) ≡ []
concat-drop_all [] zero h = refl
concat-drop_all [] (suc p) h = refl
concat-drop_all (s ∷ segments) zero h = absurd (omega arith)
concat-drop_all (s ∷ segments) (suc p) h = concat-drop_all segments p (omega arith)

-- where one list of lists is empty if another is, so are their images
pub map-map_empty : (f : ℕ → ℕ) (x y : List (List ℕ)) → (x ≡ [] → y ≡ []) → map (map f) x ≡ [] → map (map f) y ≡ []
map-map_empty f [] y h e = ap (map (map f)) (h refl)
map-map_empty f (s ∷ x) y h e = absurd (omega (arith, ap length e))

-- one list of lists is a list with that list
pub only_list-of_length_one : (l : List (List ℕ)) → length l ≡ 1 → (s : List ℕ) × (l ≡ s ∷ [])
only_list-of_length_one [] e = absurd (omega arith)
only_list-of_length_one (s ∷ []) e = (s, refl)
only_list-of_length_one (s ∷ t ∷ l) e = absurd (omega arith)

-- the first lengths are those of the first lists
pub take-map_length : (n : ℕ) (l : List (List ℕ)) → take n (map length l) ≡ map length (take n l)
take-map_length zero l = refl
take-map_length (suc n) [] = refl
take-map_length (suc n) (s ∷ l) = ap (λ (k : List ℕ). length s ∷ k) (take-map_length n l)

-- items written with a blank before each, written one by one
pub flat_map-blanks : {A : Type 0} (f : A → List ℕ) (xs : List A) → flat_map (λ x. 32 ∷ f x) xs ≡ flat_map (λ l. 32 ∷ l) (map f xs)
flat_map-blanks f [] = refl
flat_map-blanks f (x ∷ xs) = ap (λ (l : List ℕ). 32 ∷ f x ++ l) (flat_map-blanks f xs)

-- pieces with a blank before each, and more of them
pub flat_map-blanks_then_pieces : {A : Type 0} (f : A → List ℕ) (xs : List A) (more : List (List ℕ))
    → flat_map (λ x. 32 ∷ f x) xs ++ flat_map (λ l. 32 ∷ l) more ≡ flat_map (λ l. 32 ∷ l) (map f xs ++ more)
flat_map-blanks_then_pieces f xs more =
    ap (λ (l : List ℕ). l ++ flat_map (λ l. 32 ∷ l) more) (flat_map-blanks f xs) ∙ sym (flat_map-append (λ (l : List ℕ). 32 ∷ l) (map f xs) more)

-- the concatenation of lists of one number each is the list of the numbers
pub concat-singletons : (numbers : List ℕ) → concat (map (λ q. q ∷ []) numbers) ≡ numbers
concat-singletons [] = refl
concat-singletons (n ∷ numbers) = ap (λ (ns : List ℕ). n ∷ ns) (concat-singletons numbers)
