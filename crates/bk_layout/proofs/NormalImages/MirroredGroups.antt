-- With left and right exchanged a tiling has as many groups.
use Rattle.std.specs.Cmp.{both_ways}
use Rattle.std.proofs.Common.{List, ap, arith, count_by, length, map, sum, sum_by, sym, ℕ, ◌+◌, ◌∙◌, ◌≡◌, ◌≤◌}
use Rattle.std.proofs.lemmas.Bool.Decides.{nat_tests}
use Rattle.std.proofs.lemmas.List.Sums.{sum-map}
use Rattle.std.proofs.lemmas.Simd.{map-map}
use Rattle.bk_tiling.proofs.GroupCount.{AreLaid, groups_counted}
use Rattle.bk_tiling.proofs.OrderLaws.{sum_ordered}
use Rattle.bk_tiling.proofs.PairCounts.{pairs_exchanged}
use Rattle.bk_tiling.proofs.TilingLaws.{cell_most, side_of, within_of}
use Rattle.bk_tiling.specs.CodeOrder.{stands_beside}
use Rattle.bk_tiling.specs.SquareGroups.{square_groups}
use Rattle.bk_tiling.specs.Tiling.{IsTiling, Tiling}
use Rattle.bk_tiling.specs.declared.Square.{Square}
use Rattle.bk_sym.proofs.Images.{images_are_tilings}
use Rattle.bk_sym.specs.Image.{image, image_square}
use Rattle.bk_sym.specs.declared.Turn.TheVariants.{FlipX}
use Rattle.bk_dual.proofs.PointSums.{sum_same_in}
use Rattle.bk_layout.proofs.NormalImages.ImageCounts.{count_same_in, image_count, image_order}

laid : (t : Tiling) → IsTiling t → AreLaid t.squares
laid t tiling = record { ordered = tiling.ordered; sides = side_of t tiling; most = cell_most t tiling }

-- of two squares, mirrored, the one stands beside the other where it stood the other way round
mirrored_beside : (w h : ℕ) (p r : Square) → p.x + p.s ≤ 0 + w → r.x + r.s ≤ 0 + w
    → stands_beside (image_square FlipX w h p) (image_square FlipX w h r) ≡ stands_beside r p
mirrored_beside w h p r a b = both_ways (stands_beside (image_square FlipX w h p) (image_square FlipX w h r)) (stands_beside r p)
    (λ e. grind (arith, nat_tests)) (λ e. grind (arith, nat_tests))

sum_map : (f : Square → ℕ) (g : Square → Square) (squares : List Square) → sum_by f (map g squares) ≡ sum_by (λ q. f (g q)) squares
sum_map f g squares = sym (sum-map f (map g squares)) ∙ ap sum (map-map f g squares) ∙ sum-map (λ q. f (g q)) squares

module _ (t : Tiling) (tiling : IsTiling t) where
  abbrev mirror : Square → Square
  mirror q = image_square FlipX t.width t.height q

  -- so there are as many pairs of squares side by side
  beside_sum : sum_by (λ r. count_by (λ p. stands_beside p r) (image FlipX t).squares) (image FlipX t).squares
      ≡ sum_by (λ r. count_by (λ p. stands_beside p r) t.squares) t.squares
  beside_sum = sum_ordered (λ r. count_by (λ p. stands_beside p r) (image FlipX t).squares) (map mirror t.squares)
      ∙ sum_map (λ r. count_by (λ p. stands_beside p r) (image FlipX t).squares) mirror t.squares
      ∙ sum_same_in (λ r. count_by (λ p. stands_beside p (mirror r)) (image FlipX t).squares) (λ r. count_by (stands_beside r) t.squares) t.squares
      (λ r h. image_count t FlipX (λ p. stands_beside p (mirror r))
      ∙ count_same_in (λ p. stands_beside (mirror p) (mirror r)) (stands_beside r) t.squares
      (λ p k. mirrored_beside t.width t.height p r (within_of t tiling p k).right (within_of t tiling r h).right))
      ∙ pairs_exchanged stands_beside t.squares t.squares

  -- an image flipped along x has as many groups
  pub flip_x_groups : length (square_groups (image FlipX t).squares) ≡ length (square_groups t.squares)
  flip_x_groups = omega (
    arith,
    groups_counted t.squares (laid t tiling),
    groups_counted (image FlipX t).squares (laid (image FlipX t) (images_are_tilings t FlipX tiling)),
    image_order t FlipX,
    beside_sum,
  )
