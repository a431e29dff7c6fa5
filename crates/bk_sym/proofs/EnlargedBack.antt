-- What a tiling is an enlargement of is a tiling.
use Rattle.std.specs.List.{AllByRecursion}
use Rattle.std.proofs.Common.{List, [], arith, inl, inr, map, sym, true, ℕ, ◌*◌, ◌+◌, ◌<◌, ◌∙◌, ◌∷◌, ◌≡◌, ◌⊎◌}
use Rattle.std.proofs.Math.Nat.{mul-le-mul_left}
use Rattle.std.proofs.lemmas.List.{length-map}
use Rattle.bk_laws.proofs.Products.{mul_below, mul_not_below, mul_one}
use Rattle.bk_laws.proofs.Multiples.{lt-of_mul_lt}
use Rattle.bk_tiling.proofs.Cells.{all_from}
use Rattle.bk_tiling.proofs.Scaling.{before_cases, before_from, in_enlarged}
use Rattle.bk_tiling.proofs.TilingLaws.{cell_once, side_of, within_of}
use Rattle.bk_tiling.specs.CodeOrder.{InCodeOrder, comes_before}
use Rattle.bk_tiling.specs.Scale.{enlarged, enlarged_square}
use Rattle.bk_tiling.specs.Tiling.{IsTiling, IsWithin, Tiling, covers, whole}
use Rattle.bk_tiling.specs.declared.Square.{Square}
use Rattle.bk_sym.proofs.Images.{count_same, same_cover}

-- what a tiling is an enlargement of is a tiling
pub scaled_down_is : (k : ℕ) (t : Tiling) → 0 < k → IsTiling (enlarged k t) → IsTiling t
scaled_down_is k t h tiling = record {
  tiles = record {
    some = omega (arith, (tiling.tiles).some, length-map t.squares (enlarged_square k));
    sides = all_from (λ q. 0 < q.s) t.squares
        (λ q m. lt-of_mul_lt k 0 q.s (omega (arith, side_of (enlarged k t) tiling (enlarged_square k q) (in_enlarged k t.squares q m))));
    within = all_from (IsWithin (whole t)) t.squares (λ q m. let w = within_of (enlarged k t) tiling (enlarged_square k q) (in_enlarged k t.squares q m) in
        record {
          left = omega arith;
          right = mul_not_below k (q.x + q.s) (0 + t.width) (omega (arith, w.right)) h;
          top = omega arith;
          bottom = mul_not_below k (q.y + q.s) (0 + t.height) (omega (arith, w.bottom)) h;
        });
    once = λ i j a b c d. sym (count_same (enlarged_square k) (k * i) (k * j) i j t.squares (λ q m. cell i j q))
        ∙ cell_once (enlarged k t) tiling (k * i) (k * j) (mul_below k i t.width h (omega arith)) (mul_below k j t.height h (omega arith));
  };
  ordered = order t.squares tiling.ordered;
}
  where
    cell : (i j : ℕ) (q : Square) → covers (k * i) (k * j) (enlarged_square k q) ≡ covers i j q
    cell i j q = same_cover (k * i) (k * j) i j (enlarged_square k q) q
        (λ o. record {
          left = mul_not_below k q.x i o.left h;
          right = lt-of_mul_lt k i (q.x + q.s) (omega (arith, o.right));
          top = mul_not_below k q.y j o.top h;
          bottom = lt-of_mul_lt k j (q.y + q.s) (omega (arith, o.bottom));
        })
        (λ o. record {
          left = mul-le-mul_left k o.left;
          right = omega (arith, mul_below k i (q.x + q.s) h o.right);
          top = mul-le-mul_left k o.top;
          bottom = omega (arith, mul_below k j (q.y + q.s) h o.bottom);
        })

    before : (q r : Square) → comes_before (enlarged_square k q) (enlarged_square k r) ≡ true → comes_before q r ≡ true
    before q r e = before_from q r (cases (before_cases (enlarged_square k q) (enlarged_square k r) e))
      where
        cases : (k * q.y < k * r.y) ⊎ ((k * q.y ≡ k * r.y) × (k * q.x < k * r.x)) → (q.y < r.y) ⊎ ((q.y ≡ r.y) × (q.x < r.x))
        cases (inl l) = inl (lt-of_mul_lt k q.y r.y l)
        cases (inr l) = inr (mul_one k q.y r.y h l.0, lt-of_mul_lt k q.x r.x l.1)

    before_each : (q : Square) (squares : List Square)
        → AllByRecursion (λ r. comes_before (enlarged_square k q) r ≡ true) (map (enlarged_square k) squares)
        → AllByRecursion (λ r. comes_before q r ≡ true) squares
    before_each q [] all = tt
    before_each q (r ∷ squares) all = (before q r all.0, before_each q squares all.1)

    order : (squares : List Square) → InCodeOrder (map (enlarged_square k) squares) → InCodeOrder squares
    order [] o = tt
    order (q ∷ squares) o = (before_each q squares o.0, order squares o.1)
