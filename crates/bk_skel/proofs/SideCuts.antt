-- The sides of squares cut at a place, and what they sum up to.
use Rattle.std.specs.List.{AllByRecursion}
use Rattle.std.proofs.Common.{List, [], arith, length, sum, ℕ, ◌*◌, ◌∷◌, ◌≤◌}
use Rattle.std.proofs.lemmas.List.Sums.{sum_by-cons}
use Rattle.bk_tiling.specs.KeptTiling.{IsSide}

-- how small and how large sides sum
pub how_small_and_large_sides_sum : (sides : List ℕ) → AllByRecursion IsSide sides → (length sides ≤ sum sides)
    × (sum sides ≤ 999_999_999_999_999 * length sides)
how_small_and_large_sides_sum [] a = (omega arith, omega arith)
how_small_and_large_sides_sum (s ∷ sides) a = let r = how_small_and_large_sides_sum sides a.1 in
    (omega (arith, sum_by-cons (λ (n : ℕ). n) s sides, r.0, (a.0).0), omega (arith, sum_by-cons (λ (n : ℕ). n) s sides, r.1, (a.0).1))
