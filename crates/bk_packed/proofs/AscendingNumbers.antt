-- Ascending numbers: their lower half, and the place of one more.
use Rattle.std.specs.List.{AllByRecursion}
use Rattle.std.proofs.Common.{Contains, List, [], ap, arith, drop, inl, inr, length, length-append, refl}
use Rattle.std.proofs.Common.{slice_index, subst}
use Rattle.std.proofs.Common.{suc, sym, take, zero, ℕ, ◌++◌, ◌+◌, ◌/◌, ◌<◌, ◌∷◌, ◌≡◌, ◌≤◌, ◌⊎◌, ◌↔◌}
use Rattle.std.proofs.lemmas.List.{take-append-drop}
use Rattle.std.proofs.lemmas.List.Elements.{All-contains, All-from_recursion, All-get_or}
use Rattle.bk_packed.specs.KeptNumbers.{AreAscendingNumbers}

-- ---- lists of numbers all of which pass a test

-- each number of the list passes the test
abbrev pub All : (ℕ → Type 0) → List ℕ → Type 0
All P xs = AllByRecursion P xs

-- numbers that pass a test pass each test that follows from it
pub all_map : (P Q : ℕ → Type 0) (xs : List ℕ) → ((y : ℕ) → P y → Q y) → All P xs → All Q xs
all_map P Q [] f all = tt
all_map P Q (x ∷ xs) f all = (f x all.0, all_map P Q xs f all.1)

-- two lists of numbers that pass a test, put together, pass it
pub all_join : (P : ℕ → Type 0) (xs ys : List ℕ) → All P xs → All P ys → All P (xs ++ ys)
all_join P [] ys a b = b
all_join P (x ∷ xs) ys a b = (a.0, all_join P xs ys a.1 b)

all_front : (P : ℕ → Type 0) (xs ys : List ℕ) → All P (xs ++ ys) → All P xs
all_front P [] ys all = tt
all_front P (x ∷ xs) ys all = (all.0, all_front P xs ys all.1)

all_back : (P : ℕ → Type 0) (xs ys : List ℕ) → All P (xs ++ ys) → All P ys
all_back P [] ys all = all
all_back P (x ∷ xs) ys all = all_back P xs ys all.1

all_take : (P : ℕ → Type 0) (k : ℕ) (xs : List ℕ) → All P xs → All P (take k xs)
all_take P k xs all = all_front P (take k xs) (drop k xs) (subst (All P) (sym (take-append-drop k xs)) all)

all_drop : (P : ℕ → Type 0) (k : ℕ) (xs : List ℕ) → All P xs → All P (drop k xs)
all_drop P k xs all = all_back P (take k xs) (drop k xs) (subst (All P) (sym (take-append-drop k xs)) all)

-- a list passes a test if its first numbers and the ones left do
pub all_again : (P : ℕ → Type 0) (k : ℕ) (xs : List ℕ) → All P (take k xs) → All P (drop k xs) → All P xs
all_again P k xs a b = subst (All P) (take-append-drop k xs) (all_join P (take k xs) (drop k xs) a b)

-- ---- one more at its place

-- a list with a number put in at a place
abbrev pub with_one : ℕ → ℕ → List ℕ → List ℕ
with_one place x xs = take place xs ++ x ∷ drop place xs

-- a number put in behind all lesser ones and before all greater ones leaves the list ascending
pub one_ascends : (x place : ℕ) (xs : List ℕ) → AreAscendingNumbers xs → All (λ y. y < x) (take place xs) → All (λ y. x < y) (drop place xs)
    → AreAscendingNumbers (with_one place x xs)
one_ascends x zero xs asc before from = (from, asc)
one_ascends x (suc place) [] asc before from = (tt, tt)
one_ascends x (suc place) (y ∷ xs) asc before from = (
  all_join (λ z. y < z) (take place xs) (x ∷ drop place xs) (all_take (λ z. y < z) place xs asc.0) (before.0, all_drop (λ z. y < z) place xs asc.0),
  one_ascends x place xs asc.1 before.1 from,
)

-- numbers that pass a test, with one more that does put in, pass it
pub all_pass_with_one_put_in : (P : ℕ → Type 0) (x place : ℕ) (xs : List ℕ) → P x → All P xs → All P (with_one place x xs)
all_pass_with_one_put_in P x place xs one all = all_join P (take place xs) (x ∷ drop place xs) (all_take P place xs all) (one, all_drop P place xs all)

-- a list with a number put in is longer by one
pub long_one : (x place : ℕ) (xs : List ℕ) → length (with_one place x xs) ≡ length xs + 1
long_one x place xs = omega (
  arith,
  length-append (take place xs) (x ∷ drop place xs),
  length-append (take place xs) (drop place xs),
  ap length (take-append-drop place xs),
)

-- ---- the lower half

-- of ascending numbers those before a place are less than the one there
pub less_before : (xs : List ℕ) (place : ℕ) → AreAscendingNumbers xs → place < length xs → All (λ y. y < slice_index xs place) (take place xs)
less_before [] place asc few = absurd (omega arith)
less_before (x ∷ xs) zero asc few = tt
less_before (x ∷ xs) (suc place) asc few = (at xs place (omega arith) asc.0, less_before xs place asc.1 (omega arith))
  where
    at : (zs : List ℕ) (i : ℕ) → i < length zs → All (λ z. x < z) zs → x < slice_index zs i
    at [] i h all = absurd (omega arith)
    at (z ∷ zs) zero h all = all.0
    at (z ∷ zs) (suc i) h all = at zs i (omega arith) all.1

-- of ascending numbers those from a place on are not less than the one there
pub from_place : (xs : List ℕ) (place : ℕ) → AreAscendingNumbers xs → All (λ y. slice_index xs place ≤ y) (drop place xs)
from_place [] zero asc = tt
from_place [] (suc place) asc = tt
from_place (x ∷ xs) zero asc = (omega arith, all_map (λ z. x < z) (λ z. x ≤ z) xs (λ z h. omega arith) asc.0)
from_place (x ∷ xs) (suc place) asc = from_place xs place asc.1

-- of ascending numbers the lower half is less than the least of the upper one
pub low_half : (xs : List ℕ) → AreAscendingNumbers xs → All (λ y. y < slice_index xs (length xs / 2)) (take (length xs / 2) xs)
low_half [] asc = tt
low_half (x ∷ xs) asc = less_before (x ∷ xs) (suc (length xs) / 2) asc (omega arith)

-- the number in the middle is not above what all numbers are below
pub least_below : (xs : List ℕ) (bound : ℕ) → All (λ y. y < bound) xs → slice_index xs (length xs / 2) ≤ bound
least_below [] bound all = omega arith
least_below (x ∷ xs) bound all =
    let h = All-get_or (λ y. y < bound) (x ∷ xs) (suc (length xs) / 2) 0 (omega arith) (All-from_recursion (λ y. y < bound) (x ∷ xs) all) in omega (arith, h)

-- the place where a number that isn't there would stand
pub record IsNewPlace (xs : List ℕ) (x : ℕ) : Type 0 where
  pub place : ℕ
  pub before : All (λ y. y < x) (take place xs)
  pub from : All (λ y. x < y) (drop place xs)

-- a number that is not in an ascending list has a new place there
pub place_in : (xs : List ℕ) (x : ℕ) → AreAscendingNumbers xs → (Contains xs x → ⊥) → IsNewPlace xs x
place_in [] x asc not = record { place = 0; before = tt; from = tt }
place_in (y ∷ ys) x asc not = cases (three x y) (place_in ys x asc.1 (λ (k, low, is). not (suc k, omega (arith, low), is)))
  where
    three : (a b : ℕ) → (a < b) ⊎ ((b ≡ a) ⊎ (b < a))
    three a b = grind arith

    cases : (x < y) ⊎ ((y ≡ x) ⊎ (y < x)) → IsNewPlace ys x → IsNewPlace (y ∷ ys) x
    cases (inl h) p = record { place = 0; before = tt; from = (h, all_map (λ z. y < z) (λ z. x < z) ys (λ z g. omega arith) asc.0) }
    cases (inr (inl e)) p = absurd (not (zero, omega arith, e))
    cases (inr (inr h)) p = record { place = suc p.place; before = (h, p.before); from = p.from }

-- ---- numbers in another order

-- the two keep the same numbers
abbrev pub AreSame : List ℕ → List ℕ → Type 0
AreSame xs ys = (y : ℕ) → Contains xs y ↔ Contains ys y

-- a list keeps just the numbers that it keeps
pub same_itself : (xs : List ℕ) → AreSame xs xs
same_itself xs y = (λ h. h, λ h. h)

-- what each of the numbers passes
pub all_of_each_contained : (P : ℕ → Type 0) (xs : List ℕ) → ((y : ℕ) → Contains xs y → P y) → All P xs
all_of_each_contained P [] each = tt
all_of_each_contained P (x ∷ xs) each = (
  each x (zero, omega arith, refl),
  all_of_each_contained P xs (λ y (k, low, is). each y (suc k, omega (arith, low), is)),
)

-- what all of some numbers pass, all of the same pass
pub all_same : (P : ℕ → Type 0) (xs ys : List ℕ) → AreSame xs ys → All P xs → All P ys
all_same P xs ys same all = all_of_each_contained P ys (λ y h. All-contains P xs y (All-from_recursion P xs all) ((same y).1 h))

-- ---- finding the place

-- of ascending numbers those from one that isn't less than another on are not less either
pub no_less_from : (x place : ℕ) (xs : List ℕ) → AreAscendingNumbers xs → place < length xs → x ≤ slice_index xs place → All (λ y. x ≤ y) (drop place xs)
no_less_from x place [] asc few more = absurd (omega arith)
no_less_from x zero (y ∷ xs) asc few more = (more, all_map (λ z. y < z) (λ z. x ≤ z) xs (λ z h. omega (arith, more)) asc.0)
no_less_from x (suc place) (y ∷ xs) asc few more = no_less_from x place xs asc.1 (omega arith) more
