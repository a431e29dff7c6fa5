-- Where the groups of a code begin, by the places of its squares.
use Rattle.std.proofs.Common.{List, [], ap, arith, length, refl, slice_index_or, suc, sym, zero, ℕ, ◌+◌, ◌-◌, ◌<◌, ◌^◌, ◌∙◌, ◌∷◌, ◌≡◌, ◌≢◌}
use Rattle.std.specs.Prelude.{not}
use Rattle.std.proofs.lemmas.List.Elements.{All-from_recursion}
use Rattle.bk_tiling.specs.CodeOrder.{begins_group, stands_beside}
use Rattle.bk_tiling.specs.KeptTiling.{IsKept}
use Rattle.bk_tiling.specs.Tiling.{IsWithin, Tiling, whole}
use Rattle.bk_tiling.specs.declared.Square.{Square}

-- behind the first square a group begins exactly where a square does not stand beside the one before it
begins_after : (squares : List Square) (i : ℕ) (d : Square) → suc i < length squares
    → begins_group squares (suc i) ≡ not (stands_beside (slice_index_or squares i d) (slice_index_or squares (suc i) d))
begins_after [] i d within = absurd (omega arith)
begins_after (q ∷ []) i d within = absurd (omega arith)
begins_after (q ∷ r ∷ squares) zero d within = refl
begins_after (q ∷ r ∷ squares) (suc i) d within = begins_after (r ∷ squares) i d (omega arith)

-- a group begins at a place past the first just where the square there does not stand beside the one before it
pub begins_at : (squares : List Square) (i : ℕ) (d : Square) → i ≢ 0 → i < length squares
    → not (stands_beside (slice_index_or squares (i - 1) d) (slice_index_or squares i d)) ≡ begins_group squares i
begins_at squares zero d some within = absurd (some refl)
begins_at squares (suc i) d some within =
    let before : suc i - 1 ≡ i = omega arith in
    ap (λ k. not (stands_beside (slice_index_or squares k d) (slice_index_or squares (suc i) d))) before ∙ sym (begins_after squares i d within)

-- the right edge of a square fits the type of a width
pub right_fits : (t : Tiling) → IsKept t → (i : ℕ) (d : Square) → i < length t.squares
    → (slice_index_or t.squares i d).x + (slice_index_or t.squares i d).s < 2 ^ 64
right_fits t kept i d within =
    let inside : IsWithin (whole t) (slice_index_or t.squares i d) = All-from_recursion (IsWithin (whole t)) t.squares kept.tiling.tiles.within i d within in
    let right = inside.right in
    let fits = kept.width_fits in
    omega arith
