-- The sum of a list of numbers, by cases.
use Rattle.std.proofs.Common.{List, [], arith, refl, sum, ℕ, ◌+◌, ◌∷◌, ◌≡◌}
use Rattle.std.proofs.lemmas.List.Sums.{sum_by-cons}

-- the sum of the numbers
abbrev pub total : List ℕ → ℕ
total [] = 0
total (s ∷ sides) = s + total sides

-- the sum that std defines is the total
pub sum_is_total : (sides : List ℕ) → sum sides ≡ total sides
sum_is_total [] = refl
sum_is_total (s ∷ sides) = omega (arith, sum_by-cons (λ (n : ℕ). n) s sides, sum_is_total sides)
