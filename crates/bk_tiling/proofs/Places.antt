-- Squares in the order of a code, by the places at which they stand.
use Rattle.std.proofs.Common.{List, [], arith, get_or, inl, inr, length, slice_index_or, subst, suc, sym, true, zero, ℕ, ◌<◌, ◌∷◌, ◌≡◌, ◌≤◌, ◌⊎◌}
use Rattle.bk_laws.proofs.NumberOrder.{le-same_or_less}
use Rattle.bk_tiling.proofs.Cells.{in_all}
use Rattle.bk_tiling.proofs.Members.{one_at}
use Rattle.bk_tiling.proofs.OrderLaws.{comes_before-trans}
use Rattle.bk_tiling.specs.CodeOrder.{InCodeOrder, comes_before}
use Rattle.bk_tiling.specs.Tiling.{IsOneOf}
use Rattle.bk_tiling.specs.declared.Square.{Square}

-- a square of a list stands at some place of it
pub at_place : (squares : List Square) (q : Square) → IsOneOf q squares → (m : ℕ) × (m < length squares) × ((d : Square) → slice_index_or squares m d ≡ q)
at_place [] q h = absurd h
at_place (r ∷ squares) q (inl e) = (0, omega arith, λ d. sym e)
at_place (r ∷ squares) q (inr h) = let found = at_place squares q h in (suc found.0, omega (arith, found.1), found.2)

-- in the order of a code the square at an earlier place comes before the one at a later place
pub later_place : (squares : List Square) → InCodeOrder squares → (i j : ℕ) (d : Square) → i < j → j < length squares
    → comes_before (slice_index_or squares i d) (slice_index_or squares j d) ≡ true
later_place [] o i j d a b = absurd (omega arith)
later_place (q ∷ squares) o zero zero d a b = absurd (omega arith)
later_place (q ∷ squares) o zero (suc j) d a b =
    in_all (λ r. comes_before q r ≡ true) squares o.0 (slice_index_or squares j d) (one_at squares j d (omega arith))
later_place (q ∷ squares) o (suc i) zero d a b = absurd (omega arith)
later_place (q ∷ squares) o (suc i) (suc j) d a b = later_place squares o.1 i j d (omega arith) (omega arith)

-- what `partition_point` asks
pub parted_at : (squares : List Square) (c : Square) → InCodeOrder squares → (i j : ℕ) (d : Square) → i ≤ j → j < length squares
    → comes_before (get_or squares j d) c ≡ true → comes_before (get_or squares i d) c ≡ true
parted_at squares c o i j d h k e = cases (le-same_or_less i j h)
  where
    cases : (i ≡ j) ⊎ (i < j) → comes_before (get_or squares i d) c ≡ true
    cases (inl same) = subst (λ (k : ℕ). comes_before (get_or squares k d) c ≡ true) (sym same) e
    cases (inr less) = comes_before-trans (get_or squares i d) (get_or squares j d) c (later_place squares o i j d less k) e
