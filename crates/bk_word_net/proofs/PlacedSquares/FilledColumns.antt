-- Squares that fill each column of a rectangle once, down to one depth, tile it.
use Rattle.std.proofs.Common.{List, [], arith, count_by, inl, length, refl, ℕ, ◌+◌, ◌<◌, ◌∙◌, ◌∷◌, ◌≡◌, ◌≤◌}
use Rattle.bk_tiling.proofs.Cells.{all_from, column_from, depth_reaches}
use Rattle.bk_tiling.proofs.OrderLaws.{in_code_order-count}
use Rattle.bk_tiling.proofs.PuttingInOrder.{from_order, in_order, ordered}
use Rattle.bk_tiling.specs.CodeOrder.{in_code_order}
use Rattle.bk_tiling.specs.Column.{depth}
use Rattle.bk_tiling.specs.Refusal.{sized}
use Rattle.bk_tiling.specs.Tiling.{IsOneOf, IsTiling, IsWithin, Tiles, covers}
use Rattle.bk_tiling.specs.declared.Square.{Square}

module _ (width height : ℕ) (all : List Square) (inside : (q : Square) → IsOneOf q all → (0 < q.s) × (q.x + q.s ≤ width))
    (filled : (c j : ℕ) → c < width → j < depth all c → count_by (covers c j) all ≡ 1) (deep : (c : ℕ) → c < width → depth all c ≡ height)
    (some : 0 < length all) where
  within : (q : Square) → IsOneOf q all → IsWithin (sized width height) q
  within q h = record {
    left = omega arith;
    right = omega (arith, i.1);
    top = omega arith;
    bottom =
        omega (arith, depth_reaches all q.x q h (column_from q.x q (omega arith) (omega (arith, i.0))), deep q.x (omega (arith, i.0, i.1)));
  }
    where
      i : (0 < q.s) × (q.x + q.s ≤ width)
      i = inside q h

  once : (i j : ℕ) → i < width → j < height → count_by (covers i j) all ≡ 1
  once i j a b = filled i j a (omega (arith, deep i a))

  own_once : (q : Square) → IsOneOf q all → count_by (covers q.x q.y) all ≤ 1
  own_once q h = let i = inside q h in let w = (within q h).bottom in omega (arith, once q.x q.y (omega (arith, i.0, i.1)) (omega (arith, i.0)))

  -- columns filled to one depth are tiled
  pub columns_tile : Tiles (sized width height) all
  columns_tile = record {
    some = some;
    sides = all_from (λ q. 0 < q.s) all (λ q h. (inside q h).0);
    within = all_from (IsWithin (sized width height)) all within;
    once = λ i j a b c d. once i j (omega arith) (omega arith);
  }

  -- put in code order, they are the squares of a tiling
  pub columns_are_tiling : IsTiling (record { width = width; height = height; squares = in_code_order all })
  columns_are_tiling = record {
    tiles = record {
      some = cases all some (λ q h. in_order all q h);
      sides = all_from (λ q. 0 < q.s) (in_code_order all) (λ q h. (inside q (from_order all q h)).0);
      within = all_from (IsWithin (sized width height)) (in_code_order all) (λ q h. within q (from_order all q h));
      once = λ i j a b c d. in_code_order-count (covers i j) all ∙ once i j (omega arith) (omega arith);
    };
    ordered = ordered all (λ q h. (inside q h).0) own_once;
  }
    where
      some_in : (q : Square) (squares : List Square) → IsOneOf q squares → 0 < length squares
      some_in q [] h = absurd h
      some_in q (r ∷ squares) h = omega arith

      cases : (squares : List Square) → 0 < length squares → ((q : Square) → IsOneOf q squares → IsOneOf q (in_code_order all)) → 0 < length (in_code_order all)
      cases [] h g = absurd (omega arith)
      cases (q ∷ squares) h g = some_in q (in_code_order all) (g q (inl refl))
