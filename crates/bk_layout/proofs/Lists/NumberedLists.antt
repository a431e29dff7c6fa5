-- Lists of the values of a function at numbers in a row.
use Rattle.std.specs.List.{AllByRecursion}
use Rattle.std.proofs.Common.{Bool, List, Some, [], ap, arith, cond, inl, inr, length, map, refl, slice_get, slice_index_or, subst, suc, zero, ℕ}
use Rattle.std.proofs.Common.{◌+◌, ◌<◌, ◌∙◌, ◌∷◌, ◌≡◌, ◌≤◌, ◌⊎◌}
use Rattle.std.proofs.lemmas.Bool.{cases_lt}
use Rattle.bk_word.specs.Play.{numbers_from}
use Rattle.bk_layout.specs.SignedWord.{with_reversed}

-- there are as many values as numbers
pub numbers_length : {A : Type 0} (f : ℕ → A) (b n : ℕ) → length (map f (numbers_from b n)) ≡ n
numbers_length f b zero = refl
numbers_length f b (suc n) = ap suc (numbers_length f (b + 1) n)

-- read at a place
pub numbers_get : {A : Type 0} (f : ℕ → A) (b n k : ℕ) → k < n → slice_get (map f (numbers_from b n)) k ≡ Some (f (b + k))
numbers_get f b zero k h = absurd (omega arith)
numbers_get f b (suc n) zero h = ap (λ (i : ℕ). Some (f i)) (omega arith)
numbers_get f b (suc n) (suc k) h = numbers_get f (b + 1) n k (omega arith) ∙ ap (λ (i : ℕ). Some (f i)) (omega arith)

-- the value at a place is that of the number at this place
pub numbers_index : {A : Type 0} (f : ℕ → A) (b n k : ℕ) (d : A) → k < n → slice_index_or (map f (numbers_from b n)) k d ≡ f (b + k)
numbers_index f b zero k d h = absurd (omega arith)
numbers_index f b (suc n) zero d h = ap f (omega arith)
numbers_index f b (suc n) (suc k) d h = numbers_index f (b + 1) n k d (omega arith) ∙ ap f (omega arith)

-- two functions, and what holds at each number
pub numbers_each : {A : Type 0} (f g : ℕ → A) (b n : ℕ) → ((k : ℕ) → b ≤ k → k < b + n → f k ≡ g k) → map f (numbers_from b n) ≡ map g (numbers_from b n)
numbers_each f g b zero each = refl
numbers_each f g b (suc n) each = λ i. each b (omega arith) (omega arith) i ∷ numbers_each f g (b + 1) n (λ k lo hi. each k (omega arith) (omega arith)) i

-- what holds of the value of each number holds of all values
pub numbers_all : {A : Type 0} (P : A → Type 0) (f : ℕ → A) (b n : ℕ) → ((k : ℕ) → b ≤ k → k < b + n → P (f k)) → AllByRecursion P (map f (numbers_from b n))
numbers_all P f b zero each = tt
numbers_all P f b (suc n) each = (each b (omega arith) (omega arith), numbers_all P f (b + 1) n (λ k lo hi. each k (omega arith) (omega arith)))

-- what holds of all values in a range holds of the value of each number there
pub at_number : {A : Type 0} (P : A → Type 0) (f : ℕ → A) (b n k : ℕ) → AllByRecursion P (map f (numbers_from b n)) → b ≤ k → k < b + n → P (f k)
at_number P f b zero k all lo hi = absurd (omega arith)
at_number P f b (suc n) k all lo hi = cases (cases_lt b k) (at_number P f (b + 1) n k all.1)
  where
    cases : (b < k) ⊎ (k ≤ b) → (b + 1 ≤ k → k < b + 1 + n → P (f k)) → P (f k)
    cases (inl h) rest = rest (omega arith) (omega arith)
    cases (inr h) rest = let same : b ≡ k = omega arith in subst (λ (i : ℕ). P (f i)) same all.0

-- ---- wires of which some are reversed

-- as many wires are there after some are reversed
pub reversed_length : (is_reversed : ℕ → Bool) (b : ℕ) (ws : List (ℕ × ℕ)) → length (with_reversed is_reversed b ws) ≡ length ws
reversed_length is_reversed b [] = refl
reversed_length is_reversed b (w ∷ ws) = ap suc (reversed_length is_reversed (b + 1) ws)

-- the wire at a place is the one that was there, reversed where it is one of those
pub reversed_get : (is_reversed : ℕ → Bool) (f : ℕ → ℕ × ℕ) (b n k : ℕ) → k < n
    → slice_get (with_reversed is_reversed b (map f (numbers_from b n))) k ≡ Some (cond (is_reversed (b + k)) ((f (b + k)).1, (f (b + k)).0) (f (b + k)))
reversed_get is_reversed f b zero k h = absurd (omega arith)
reversed_get is_reversed f b (suc n) zero h = ap (λ (i : ℕ). Some (cond {A = ℕ × ℕ} (is_reversed i) ((f i).1, (f i).0) (f i))) (omega arith)
reversed_get is_reversed f b (suc n) (suc k) h = reversed_get is_reversed f (b + 1) n k (omega arith)
    ∙ ap (λ (i : ℕ). Some (cond {A = ℕ × ℕ} (is_reversed i) ((f i).1, (f i).0) (f i))) (omega arith)

-- wires that differ where they are reversed are the reversed ones
pub reversed_numbers : (is_reversed : ℕ → Bool) (f : ℕ → ℕ × ℕ) (g : ℕ → ℕ × ℕ) (b n : ℕ)
    → ((k : ℕ) → b ≤ k → k < b + n → g k ≡ cond (is_reversed k) ((f k).1, (f k).0) (f k))
    → map g (numbers_from b n) ≡ with_reversed is_reversed b (map f (numbers_from b n))
reversed_numbers is_reversed f g b zero each = refl
reversed_numbers is_reversed f g b (suc n) each =
    λ i. each b (omega arith) (omega arith) i ∷ reversed_numbers is_reversed f g (b + 1) n (λ k lo hi. each k (omega arith) (omega arith)) i

-- what holds of numbers in a row holds of each of them
pub each_from : (P : ℕ → Type 0) (b n : ℕ) → AllByRecursion P (numbers_from b n) → (v : ℕ) → b ≤ v → v < b + n → P v
each_from P b zero all v lo hi = absurd (omega (arith, lo, hi))
each_from P b (suc n) all v lo hi = cases (cases_lt b v) (each_from P (b + 1) n all.1 v)
  where
    cases : (b < v) ⊎ (v ≤ b) → (b + 1 ≤ v → v < b + 1 + n → P v) → P v
    cases (inl m) rest = rest (omega (arith, m)) (omega (arith, hi))
    cases (inr m) rest = subst P (omega (arith, lo, m)) all.0

-- wires are others with numbers of their own: they stand for these, in this order, and their ends for these nodes
abbrev pub AreRenumbered : (wires others : List (ℕ × ℕ)) (places nodes : List ℕ) → Type 0
AreRenumbered wires others places nodes = map {B = ℕ × ℕ} (λ w. (slice_index_or nodes w.0 0, slice_index_or nodes w.1 0)) wires
    ≡ map (λ k. slice_index_or others k (0, 0)) places
