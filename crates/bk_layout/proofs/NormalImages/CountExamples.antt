-- The counts of small tilings, and their normal images, by evaluation.
use Rattle.std.specs.Prelude.{[], refl, ◌∷◌, ◌≡◌}
use Rattle.bk_tiling.proofs.ExampleTilings.{rectangle_33x32, square_2x2, square_at}
use Rattle.bk_tiling.specs.Tiling.{Tiling}
use Rattle.bk_sym.specs.Image.{image}
use Rattle.bk_sym.specs.declared.Turn.TheVariants.{FlipY, Swap}
use Rattle.bk_layout.specs.TilingLayout.{layout_of}
use Rattle.bk_layout.specs.Normal.{counts_of, is_in_bottom_corner, is_in_top_corner, longest}
use Rattle.bk_layout.specs.LayoutCounts.{counts_of_layout}

counts_33x32 : counts_of rectangle_33x32 ≡ record { squares = 9; moves = 5; top = 2; bottom = 3; left = 2; right = 3 }
counts_33x32 = refl

-- its nodes are just so many, 6 of 12, so no more squares may lie at the right than at the top
upended_33x32 : counts_of (image FlipY rectangle_33x32) ≡ record { squares = 9; moves = 5; top = 3; bottom = 2; left = 2; right = 3 }
upended_33x32 = refl

swapped_33x32 : counts_of (image Swap rectangle_33x32) ≡ record { squares = 9; moves = 5; top = 2; bottom = 3; left = 2; right = 3 }
swapped_33x32 = refl

-- a crossing takes a node: 3 and 3 of 7
counts_2x2 : counts_of square_2x2 ≡ record { squares = 4; moves = 2; top = 2; bottom = 2; left = 2; right = 2 }
counts_2x2 = refl

layout_33x32 : counts_of_layout (layout_of rectangle_33x32) ≡ counts_of rectangle_33x32
layout_33x32 = refl

-- the longest in a corner
corners_33x32 : longest (is_in_top_corner 33) rectangle_33x32.squares ≡ 18
corners_33x32 = refl

lower_corners_33x32 : longest (is_in_bottom_corner 33 32) rectangle_33x32.squares ≡ 14
lower_corners_33x32 = refl

-- 3x2 of squares 2, 1, 1
abbrev rectangle_3x2 : Tiling
rectangle_3x2 = record { width = 3; height = 2; squares = square_at 0 0 2 ∷ square_at 2 0 1 ∷ square_at 2 1 1 ∷ [] }

layout_3x2 : counts_of_layout (layout_of rectangle_3x2) ≡ record { squares = 3; moves = 2; top = 2; bottom = 2; left = 1; right = 2 }
layout_3x2 = refl
