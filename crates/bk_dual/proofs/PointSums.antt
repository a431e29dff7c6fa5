-- Sums over squares.
use Rattle.std.proofs.Common.{List, [], arith, inl, inr, refl, sum_by, ℕ, ◌∷◌, ◌≡◌}
use Rattle.std.proofs.lemmas.List.Sums.{sum_by-cons}
use Rattle.bk_tiling.specs.Tiling.{IsOneOf}
use Rattle.bk_tiling.specs.declared.Square.{Square}

-- sums of terms that are the same for each of the squares are the same
pub sum_same_in : (f g : Square → ℕ) (squares : List Square) → ((q : Square) → IsOneOf q squares → f q ≡ g q) → sum_by f squares ≡ sum_by g squares
sum_same_in f g [] each = refl
sum_same_in f g (q ∷ squares) each = omega (
  arith,
  sum_by-cons f q squares,
  sum_by-cons g q squares,
  each q (inl refl),
  sum_same_in f g squares
      (λ r h. each r (inr h)),
)
