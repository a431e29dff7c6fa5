-- What is known of the square at a place of a list.
use Rattle.std.specs.List.{AllByRecursion}
use Rattle.std.proofs.Common.{List, [], arith, get_or, length, suc, zero, ℕ, ◌<◌, ◌∷◌}
use Rattle.bk_tiling.specs.declared.Square.{Square}

-- what holds of all squares holds of the one at a place
pub holds_at : (P : Square → Type 0) (squares : List Square) (i : ℕ) (d : Square) → AllByRecursion P squares → i < length squares
    → P (get_or squares i d)
holds_at P [] i d all within = absurd (omega arith)
holds_at P (q ∷ squares) zero d all within = all.0
holds_at P (q ∷ squares) (suc i) d all within = holds_at P squares i d all.1 (omega arith)
