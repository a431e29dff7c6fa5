-- Lists of which no element stands twice: they are no longer than a list that has all of their elements.
use Rattle.std.proofs.Common.{List, [], ap, arith, inl, inr, length, refl, subst, suc, sym, ◌∙◌, ◌∷◌, ◌≡◌, ◌≤◌, ◌⊎◌}

-- the element stands in the list
abbrev pub IsIn : {A : Type 0} → A → List A → Type 0
IsIn x [] = ⊥
IsIn x (y ∷ ys) = (x ≡ y) ⊎ IsIn x ys

-- no element stands in the list behind itself
abbrev pub NoneRepeated : {A : Type 0} → List A → Type 0
NoneRepeated [] = Unit {0}
NoneRepeated (x ∷ xs) = (IsIn x xs → ⊥) × NoneRepeated xs

-- the list without one of its elements: it is shorter by one, and has all others
record Without {A : Type 0} (x : A) (xs : List A) : Type 0 where
  rest : List A
  long : length xs ≡ suc (length rest)
  others : (y : A) → IsIn y xs → (y ≡ x) ⊎ IsIn y rest

without : {A : Type 0} (x : A) (xs : List A) → IsIn x xs → Without x xs
without x [] h = absurd h
without {A} x (y ∷ ys) (inl same) = record { rest = ys; long = refl; others = others }
  where
    others : (z : A) → IsIn z (y ∷ ys) → (z ≡ x) ⊎ IsIn z ys
    others z (inl e) = inl (e ∙ sym same)
    others z (inr h) = inr h
without {A} x (y ∷ ys) (inr h) = onto (without x ys h)
  where
    onto : Without x ys → Without x (y ∷ ys)
    onto w = record { rest = y ∷ w.rest; long = ap suc w.long; others = others }
      where
        next : (z : A) → (z ≡ x) ⊎ IsIn z w.rest → (z ≡ x) ⊎ IsIn z (y ∷ w.rest)
        next z (inl e) = inl e
        next z (inr k) = inr (inr k)

        others : (z : A) → IsIn z (y ∷ ys) → (z ≡ x) ⊎ IsIn z (y ∷ w.rest)
        others z (inl e) = inr (inl e)
        others z (inr k) = next z (w.others z k)

-- a list without repetition is no longer than one that has all of its elements
pub no_longer : {A : Type 0} (xs more : List A) → NoneRepeated xs → ((x : A) → IsIn x xs → IsIn x more) → length xs ≤ length more
no_longer [] more none f = omega arith
no_longer {A} (x ∷ xs) more none f = let w = without x more (f x (inl refl)) in
    omega (arith, w.long, no_longer xs w.rest none.1 (λ y h. cases y h (w.others y (f y (inr h)))))
  where
    cases : (y : A) → IsIn y xs → (y ≡ x) ⊎ IsIn y (without x more (f x (inl refl))).rest → IsIn y (without x more (f x (inl refl))).rest
    cases y h (inl e) = absurd (none.0 (subst (λ (z : A). IsIn z xs) e h))
    cases y h (inr k) = k
