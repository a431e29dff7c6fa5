-- With top and bottom exchanged a tiling has as many groups, and with columns and levels exchanged at most so many that both have three
-- more than the squares at most, with one for each bottom.
use Rattle.std.proofs.Common.{ap, arith, length, sym, ℕ, ◌+◌, ◌∙◌, ◌≡◌}
use Rattle.bk_tiling.specs.SquareGroups.{square_groups}
use Rattle.bk_tiling.specs.Tiling.{IsTiling, Tiling, order}
use Rattle.bk_sym.proofs.Composing.{images_of_images}
use Rattle.bk_sym.proofs.Images.{images_are_tilings}
use Rattle.bk_sym.specs.Image.{image}
use Rattle.bk_sym.specs.declared.Turn.TheVariants.{FlipX, FlipY, Swap}
use Rattle.bk_dual.proofs.NodesCounted.{nodes_and_crossings}
use Rattle.bk_dual.specs.Dual.{crossings}
use Rattle.bk_layout.proofs.NormalImages.ImageCounts.{image_order}
use Rattle.bk_layout.proofs.NormalImages.MirroredCrossings.{flip_y_crossings}
use Rattle.bk_layout.proofs.NormalImages.MirroredGroups.{flip_x_groups}

-- how many groups there are
abbrev pub groups_of : Tiling → ℕ
groups_of t = length (square_groups t.squares)

module _ (t : Tiling) (tiling : IsTiling t) where
  -- the groups of the tiling and of it with columns and levels exchanged
  pub both_groups : groups_of t + groups_of (image Swap t) + 2 + crossings t ≡ order t + 3
  both_groups = omega (arith, nodes_and_crossings t tiling)

  -- turned upside down and then so, the tiling is what it is so and then with left and right exchanged
  turned_groups : groups_of (image Swap (image FlipY t)) ≡ groups_of (image Swap t)
  turned_groups = ap groups_of (images_of_images t Swap FlipY tiling ∙ sym (images_of_images t FlipX Swap tiling))
      ∙ flip_x_groups (image Swap t) (images_are_tilings t Swap tiling)

module _ (t : Tiling) (tiling : IsTiling t) where
  -- a tiling turned upside down has as many groups
  pub flip_y_groups : groups_of (image FlipY t) ≡ groups_of t
  flip_y_groups = omega (
    arith,
    both_groups t tiling,
    both_groups (image FlipY t) (images_are_tilings t FlipY tiling),
    turned_groups t tiling,
    flip_y_crossings t tiling,
    image_order t FlipY,
  )
