-- Lists of numbers of which none stands twice: with the same numbers they are as long.
use Rattle.std.proofs.Common.{Bool, List, Some, [], arith, cond, false, filter, inl, inr, length, refl, slice_get, suc}
use Rattle.std.proofs.Common.{true, zero, ℕ, ◌+◌, ◌∷◌, ◌≡◌}
use Rattle.bk_laws.proofs.NoneRepeated.{NoneRepeated, no_longer}
use Rattle.bk_laws.proofs.NoneRepeated as none
use Rattle.bk_word.specs.Play.{numbers_from}
use Rattle.bk_layout.proofs.Lists.Ascending.{IsIn, filter_from, get_in, in_numbers}

-- none stands behind itself
abbrev pub Once : List ℕ → Type 0
Once [] = Unit {0}
Once (x ∷ xs) = (IsIn x xs → ⊥) × Once xs

in_to : (q : ℕ) (xs : List ℕ) → IsIn q xs → none.IsIn q xs
in_to q [] h = h
in_to q (x ∷ xs) (inl e) = inl e
in_to q (x ∷ xs) (inr h) = inr (in_to q xs h)

in_back : (q : ℕ) (xs : List ℕ) → none.IsIn q xs → IsIn q xs
in_back q [] h = h
in_back q (x ∷ xs) (inl e) = inl e
in_back q (x ∷ xs) (inr h) = inr (in_back q xs h)

none_repeated : (xs : List ℕ) → Once xs → NoneRepeated xs
none_repeated [] once = tt
none_repeated (x ∷ xs) once = ((λ h. once.0 (in_back x xs h)), none_repeated xs once.1)

-- two such lists with the same numbers are as long
pub same_long : (xs ys : List ℕ) → Once xs → Once ys → ((q : ℕ) → IsIn q xs → IsIn q ys) → ((q : ℕ) → IsIn q ys → IsIn q xs) → length xs ≡ length ys
same_long xs ys a b to from = omega (
  arith,
  no_longer xs ys (none_repeated xs a) (λ q h. in_to q ys (to q (in_back q xs h))),
  no_longer ys xs (none_repeated ys b) (λ q h. in_to q xs (from q (in_back q ys h))),
)

-- a list in which each number stands at one place alone is one
pub once_places : (xs : List ℕ) → ((j k q : ℕ) → slice_get xs j ≡ Some q → slice_get xs k ≡ Some q → j ≡ k) → Once xs
once_places [] one = tt
once_places (x ∷ xs) one = (
  (λ h. let k = get_in xs x h in let e : 0 ≡ suc k.0 = one 0 (suc k.0) x refl k.1 in omega (arith, e)),
  once_places xs (λ j k q e f. let g : suc j ≡ suc k = one (suc j) (suc k) q e f in omega (arith, g)),
)

-- the numbers of a list without repeated ones that pass a test repeat none
pub once_filter : (p : ℕ → Bool) (xs : List ℕ) → Once xs → Once (filter p xs)
once_filter p [] once = tt
once_filter p (x ∷ xs) once = cases (p x) (once_filter p xs once.1)
  where
    cases : (b : Bool) → Once (filter p xs) → Once (cond b (x ∷ filter p xs) (filter p xs))
    cases true rest = ((λ h. once.0 (filter_from p xs x h).0), rest)
    cases false rest = rest

-- the numbers of a range are each there once
pub once_numbers : (n k : ℕ) → Once (numbers_from n k)
once_numbers n zero = tt
once_numbers n (suc k) = ((λ h. omega (arith, (in_numbers (n + 1) k n h).0)), once_numbers (n + 1) k)
