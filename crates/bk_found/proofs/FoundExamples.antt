-- Placements of the rectangle 3x2 of the squares 2, 1, 1.
use Rattle.std.proofs.Common.{List, None, [], ap, arith, lit<, lit≤, refl, slice_index_or, subst, sym, ℕ, ◌∙◌, ◌∷◌, ◌≡◌}
use Rattle.bk_tiling.proofs.ExampleTilings.{rectangle_3x2, square_at}
use Rattle.bk_tiling.proofs.TilingTest.{tiles_from_test}
use Rattle.bk_tiling.specs.CodeOrder.{in_code_order}
use Rattle.bk_tiling.specs.Refusal.{IsAccepted}
use Rattle.bk_tiling.specs.declared.Square.{Square}
use Rattle.bk_found.specs.Found.{IsFound, IsPlacementOf}
use Rattle.bk_found.specs.declared.placing.Placed.{Placed}

-- its squares from the bottom up
abbrev upwards : List Square
upwards = square_at 2 1 1 ∷ square_at 2 0 1 ∷ square_at 0 0 2 ∷ []

accepted : IsAccepted 3 2 upwards
accepted = record {
  few = lit≤ tt;
  sides = ((lit< tt, lit≤ tt), ((lit< tt, lit≤ tt), ((lit< tt, lit≤ tt), tt)));
  tiles = tiles_from_test _ _ refl;
}

-- they are a placement of it
placement : (p : Placed) → p.width ≡ 3 → p.height ≡ 2 → p.squares.items ≡ upwards → IsPlacementOf rectangle_3x2 p
placement p width height squares = record {
  width = width;
  height = height;
  accepted = subst (λ (w : ℕ). IsAccepted w p.height p.squares.items) (sym width) (subst (λ (h : ℕ). IsAccepted 3 h p.squares.items) (sym height)
      (subst (IsAccepted 3 2) (sym squares) accepted));
  squares = ap in_code_order squares;
}

-- its mirror image has the same size, and is another tiling
abbrev mirrored : List Square
mirrored = square_at 0 0 1 ∷ square_at 1 0 2 ∷ square_at 0 1 1 ∷ []

no_placement : (p : Placed) → p.squares.items ≡ mirrored → IsPlacementOf rectangle_3x2 p → ⊥
no_placement p squares placed =
    let first : 1 ≡ 2 = ap (λ (z : List Square). (slice_index_or z 0 (square_at 0 0 0)).s) (sym (ap in_code_order squares) ∙ placed.squares) in
    omega (arith, first)

-- nothing is no tiling
not_found : IsFound rectangle_3x2 None → ⊥
not_found (p, is, placed) = cc
