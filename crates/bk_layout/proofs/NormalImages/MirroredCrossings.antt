-- With top and bottom exchanged a tiling has as many crossings.
use Rattle.std.specs.Cmp.{both_ways}
use Rattle.std.specs.List.{range_with_len}
use Rattle.std.proofs.Common.{Bool, ap, arith, cond, count_by, subst, suc, sum_by, sym, ℕ, ◌&&◌, ◌+◌, ◌-◌, ◌==◌, ◌∙◌, ◌≡◌, ◌≤◌}
use Rattle.std.proofs.lemmas.Bool.Decides.{nat_tests}
use Rattle.bk_laws.proofs.Sums.{sum_by-same_terms, sum_by_range-backwards, sum_by_range-same_terms}
use Rattle.bk_tiling.specs.Point.{is_at_edge, is_at_side, is_corner}
use Rattle.bk_tiling.specs.Tiling.{IsTiling, Tiling}
use Rattle.bk_tiling.specs.declared.Square.{Square}
use Rattle.bk_sym.specs.Image.{image, image_square}
use Rattle.bk_sym.specs.declared.Turn.TheVariants.{FlipY}
use Rattle.bk_dual.specs.Dual.{crossings, is_crossing}
use Rattle.bk_layout.proofs.NormalImages.ImageCounts.{image_count_as}

-- ---- crossings

module _ (t : Tiling) (tiling : IsTiling t) where
  upended_edge : (y : ℕ) (q : Square) → q.y + q.s ≤ 0 + t.height → y ≤ t.height
      → is_at_edge (image_square FlipY t.width t.height q) y ≡ is_at_edge q (t.height - y)
  upended_edge y q a h = both_ways (is_at_edge (image_square FlipY t.width t.height q) y) (is_at_edge q (t.height - y))
      (λ e. grind (arith, nat_tests)) (λ e. grind (arith, nat_tests))

  -- a point is a crossing of the image where its mirror image is a crossing
  upended_crossing : (x y : ℕ) → y ≤ t.height → is_crossing (image FlipY t) x y ≡ is_crossing t x (t.height - y)
  upended_crossing x y h = ap (λ (n : ℕ). n == 4)
      (image_count_as t tiling FlipY (is_corner x y) (is_corner x (t.height - y))
      (λ q a b. ap (λ (c : Bool). is_at_side q x && c) (upended_edge y q b h)))

  abbrev level : Tiling → ℕ → ℕ
  level u y = count_by (λ x. is_crossing u x y) (range_with_len 0 (t.width + 1))

  upended_level : (y : ℕ) → y ≤ t.height → level (image FlipY t) y ≡ level t (t.height - y)
  upended_level y h = sum_by-same_terms (λ x. cond {A = ℕ} (is_crossing (image FlipY t) x y) 1 0) (λ x. cond {A = ℕ} (is_crossing t x (t.height - y)) 1 0)
      (range_with_len 0 (t.width + 1)) (λ x. ap (λ (b : Bool). cond {A = ℕ} b 1 0) (upended_crossing x y h))

  -- level by level, backwards, the crossings are the same
  pub flip_y_crossings : crossings (image FlipY t) ≡ crossings t
  flip_y_crossings = sum_by_range-same_terms (level (image FlipY t)) (λ y. level t (t.height - y)) 0 (t.height + 1) (λ y lo hi. upended_level y (omega arith))
      ∙ subst (λ (n : ℕ). sum_by (λ y. level t (t.height - y)) (range_with_len 0 n) ≡ sum_by (level t) (range_with_len 0 n)) one_more
      (sym (sum_by_range-backwards (level t) t.height))
    where
      one_more : suc t.height ≡ t.height + 1
      one_more = omega arith
