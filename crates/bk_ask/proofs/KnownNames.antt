-- A name is looked up among names that the code holds.
use Rattle.std.specs.Bool.{Decides}
use Rattle.std.specs.List.{list_any}
use Rattle.std.specs.Prelude.{Contains, List, [], map, true, ℕ, ◌∷◌, ◌≡◌}
use Rattle.std.specs.Str.{bytes_eq}
use Rattle.std.proofs.Common.{Bool, Bor, ap, arith, inl, inr, sym, ◌||◌, ◌∙◌}
use Rattle.std.proofs.lemmas.Bool.{cases_Bool}
use Rattle.std.proofs.lemmas.Slice.Eq.{bytes_eq-Decides}
use Rattle.bk_laws.proofs.Membership.{contains-first_or_later, contains-later, contains-none}

-- the bytes of names as the code holds them
abbrev pub texts_of : List (Bor (List ℕ)) → List (List ℕ)
texts_of names = map (λ name. name.now) names

-- whether a name is among those that the code holds
abbrev pub is_among : List (Bor (List ℕ)) → List ℕ → Bool
is_among names name = list_any (λ known. bytes_eq known.now name) names

-- a name that is found stands there
pub known_from_test : (names : List (Bor (List ℕ))) (name : List ℕ) → is_among names name ≡ true → Contains (texts_of names) name
known_from_test [] name e = absurd cc
known_from_test (known ∷ names) name e = elim (cases_Bool (bytes_eq known.now name)) [
  | inl same ↦ (0, omega arith, (bytes_eq-Decides known.now name).0 same)
  | inr other ↦ contains-later known.now (texts_of names) name (known_from_test names name (sym (ap (λ (v : Bool). v || is_among names name) other) ∙ e))
]

-- a name that stands among the known ones is found
pub test_of_known : (names : List (Bor (List ℕ))) (name : List ℕ) → Contains (texts_of names) name → is_among names name ≡ true
test_of_known [] name has = absurd (contains-none name has)
test_of_known (known ∷ names) name has = elim (cases_Bool (bytes_eq known.now name)) [
  | inl same ↦ ap (λ (v : Bool). v || is_among names name) same
  | inr other ↦ elim (contains-first_or_later known.now (texts_of names) name has) [
    | inl is ↦ ap (λ (v : Bool). v || is_among names name) ((bytes_eq-Decides known.now name).1 is)
    | inr later ↦ ap (λ (v : Bool). v || is_among names name) other ∙ test_of_known names name later
  ]
]

-- the test decides whether the name is one of the known ones
pub test_decides_known : (names : List (Bor (List ℕ))) (name : List ℕ) (r : Bool) → r ≡ is_among names name → Decides r (Contains (texts_of names) name)
test_decides_known names name r is = (λ e. known_from_test names name (sym is ∙ e), λ has. is ∙ test_of_known names name has)
