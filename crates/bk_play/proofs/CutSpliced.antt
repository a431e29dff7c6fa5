-- Lists that are cut off at a place, lengthened, and followed by what stood behind another place.
use Rattle.std.proofs.Common.{List, ap, arith, refl, suc, take, zero, ℕ, ◌+◌, ◌∷◌, ◌≡◌, ◌≤◌}
use Rattle.bk_word.specs.Play.{numbers_from}

-- the first of numbers in order
pub first_numbers : (first few many : ℕ) → few ≤ many → take few (numbers_from first many) ≡ numbers_from first few
first_numbers first zero many h = refl
first_numbers first (suc few) zero h = absurd (omega arith)
first_numbers first (suc few) (suc many) h = ap (λ (l : List ℕ). first ∷ l) (first_numbers (first + 1) few many (omega arith))
