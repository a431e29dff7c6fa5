-- Each tiling has a normal image: of the tiling and of it with columns and levels exchanged one has few nodes, and two flips do the rest.
use Rattle.std.proofs.Common.{arith, inl, inr, max, min, subst, sym, ℕ, ◌*◌, ◌+◌, ◌<◌, ◌≡◌, ◌≤◌, ◌⊎◌}
use Rattle.bk_laws.proofs.NumberOrder.{le_or_ge, lt_or_gt_or_eq, max_min-of_le}
use Rattle.bk_tiling.specs.Tiling.{IsTiling, Tiling, order}
use Rattle.bk_sym.proofs.Composing.{image-Same, images_of_images}
use Rattle.bk_sym.proofs.Images.{images_are_tilings}
use Rattle.bk_sym.specs.Image.{image}
use Rattle.bk_sym.specs.Turns.{after}
use Rattle.bk_sym.specs.declared.Turn.{Turn}
use Rattle.bk_sym.specs.declared.Turn.TheVariants.{FlipX, FlipY, Same, Swap}
use Rattle.bk_layout.proofs.NormalImages.FewNodes.{AreFew, IsNoGreater, as_many_x, as_many_y, few_from, few_kept, fewer_across, fewer_level, first}
use Rattle.bk_layout.proofs.NormalImages.FewNodes.{max_min-of_these}
use Rattle.bk_layout.proofs.NormalImages.FewNodes.{more_across, more_level, no_greater, second, third}
use Rattle.bk_layout.proofs.NormalImages.ImageCorners.{corner_x_bottom, corner_x_top, corners_x, corners_y}
use Rattle.bk_layout.proofs.NormalImages.ImageCounts.{flip_x_sides, flip_y_sides, image_order, swap_sides}
use Rattle.bk_layout.proofs.NormalImages.UpendedGroups.{both_groups, groups_of}
use Rattle.bk_layout.specs.Normal.{AreTiesSettled, EachTilingHasANormalImage, HasNormalImage, IsNormal, counts_of, is_in_bottom_corner}
use Rattle.bk_layout.specs.Normal.{is_in_left_corner, is_in_right_corner, is_in_top_corner, longest}

-- no more squares at the bottom than at the top, and where they are as many no longer one in a corner at the bottom
record IsLevel (t : Tiling) : Type 0 where
  level : (counts_of t).bottom ≤ (counts_of t).top
  tie : (counts_of t).bottom ≡ (counts_of t).top → longest (is_in_bottom_corner t.width t.height) t.squares ≤ longest (is_in_top_corner t.width) t.squares

-- no more at the left than at the right, and where they are as many no longer one in a corner at the right
record IsAcross (t : Tiling) : Type 0 where
  across : (counts_of t).left ≤ (counts_of t).right
  tie : (counts_of t).left ≡ (counts_of t).right → longest (is_in_right_corner t.width t.height) t.squares ≤ longest (is_in_left_corner t.height) t.squares

-- an image of an image that is normal
from_image : (t : Tiling) → IsTiling t → (turn : Turn) → HasNormalImage (image turn t) → HasNormalImage t
from_image t tiling turn h = record {
  turn = after h.turn turn;
  normal = subst IsNormal (images_of_images t h.turn turn tiling) h.normal;
  ties = subst AreTiesSettled (images_of_images t h.turn turn tiling) h.ties;
}

-- the tiling itself
as_it_is : (t : Tiling) → IsTiling t → AreFew t → IsLevel t → IsAcross t → HasNormalImage t
as_it_is t tiling f l a = record {
  turn = Same;
  normal = subst IsNormal (sym (image-Same t tiling)) (record {
    few = f.few;
    half = λ h. omega (arith, f.more h, right.0, top.0);
    level = l.level;
    across = a.across;
  });
  ties = subst AreTiesSettled (sym (image-Same t tiling)) (record {
    sides = λ h e. omega (arith, f.fewer h (most e), right.1, top.1);
    size = λ h e g. f.size h (most e) (omega (arith, g, right.1, top.1));
    level = l.tie;
    across = a.tie;
  });
}
  where
    right : (more_across t ≡ (counts_of t).right) × (fewer_across t ≡ (counts_of t).left)
    right = max_min-of_le (counts_of t).left (counts_of t).right a.across

    max_exchanged : (a b : ℕ) → a ≤ b → (max b a ≡ b) × (min b a ≡ a)
    max_exchanged a b h = (grind arith, grind arith)

    top : (more_level t ≡ (counts_of t).top) × (fewer_level t ≡ (counts_of t).bottom)
    top = max_exchanged (counts_of t).bottom (counts_of t).top l.level

    most : (counts_of t).right ≡ (counts_of t).top → more_across t ≡ more_level t
    most e = omega (arith, e, right.0, top.0)

-- left and right exchanged, or not
flip_across : (t : Tiling) → IsTiling t → AreFew t → IsLevel t → HasNormalImage t
flip_across t tiling f l = cases (lt_or_gt_or_eq (counts_of t).left (counts_of t).right)
    (le_or_ge (longest (is_in_right_corner t.width t.height) t.squares) (longest (is_in_left_corner t.height) t.squares))
  where
    flipped : IsAcross (image FlipX t) → HasNormalImage t
    flipped a = from_image t tiling FlipX (as_it_is (image FlipX t) (images_are_tilings t FlipX tiling)
        (few_kept t (image FlipX t) (as_many_x t tiling) f)
        (record {
          level = omega (arith, l.level, (flip_x_sides t tiling).at_top, (flip_x_sides t tiling).at_bottom);
          tie = λ e. omega (
            arith,
            l.tie (omega (arith, e, (flip_x_sides t tiling).at_top, (flip_x_sides t tiling).at_bottom)),
            corner_x_top t tiling,
            corner_x_bottom t tiling,
          );
        })
        a)

    cases : ((counts_of t).left < (counts_of t).right) ⊎ (((counts_of t).right < (counts_of t).left) ⊎ ((counts_of t).left ≡ (counts_of t).right))
        → (longest (is_in_right_corner t.width t.height) t.squares ≤ longest (is_in_left_corner t.height) t.squares)
        ⊎ (longest (is_in_left_corner t.height) t.squares ≤ longest (is_in_right_corner t.width t.height) t.squares) → HasNormalImage t
    cases (inl h) o = as_it_is t tiling f l (record { across = omega (arith, h); tie = λ e. absurd (omega (arith, h, e)) })
    cases (inr (inl h)) o = flipped (record {
      across = omega (arith, h, (flip_x_sides t tiling).at_left, (flip_x_sides t tiling).at_right);
      tie = λ e. absurd (omega (arith, h, e, (flip_x_sides t tiling).at_left, (flip_x_sides t tiling).at_right));
    })
    cases (inr (inr h)) (inl o) = as_it_is t tiling f l (record { across = omega (arith, h); tie = λ e. o })
    cases (inr (inr h)) (inr o) = flipped (record {
      across = omega (arith, h, (flip_x_sides t tiling).at_left, (flip_x_sides t tiling).at_right);
      tie = λ e. omega (arith, o, (corners_x t tiling).0, (corners_x t tiling).1);
    })

-- top and bottom exchanged before, or not
flip_level : (t : Tiling) → IsTiling t → AreFew t → HasNormalImage t
flip_level t tiling f = cases (lt_or_gt_or_eq (counts_of t).bottom (counts_of t).top)
    (le_or_ge (longest (is_in_bottom_corner t.width t.height) t.squares) (longest (is_in_top_corner t.width) t.squares))
  where
    flipped : IsLevel (image FlipY t) → HasNormalImage t
    flipped l = from_image t tiling FlipY (flip_across (image FlipY t) (images_are_tilings t FlipY tiling)
        (few_kept t (image FlipY t) (as_many_y t tiling) f) l)

    cases : ((counts_of t).bottom < (counts_of t).top) ⊎ (((counts_of t).top < (counts_of t).bottom) ⊎ ((counts_of t).bottom ≡ (counts_of t).top))
        → (longest (is_in_bottom_corner t.width t.height) t.squares ≤ longest (is_in_top_corner t.width) t.squares)
        ⊎ (longest (is_in_top_corner t.width) t.squares ≤ longest (is_in_bottom_corner t.width t.height) t.squares) → HasNormalImage t
    cases (inl h) o = flip_across t tiling f (record { level = omega (arith, h); tie = λ e. absurd (omega (arith, h, e)) })
    cases (inr (inl h)) o = flipped (record {
      level = omega (arith, h, (flip_y_sides t tiling).at_top, (flip_y_sides t tiling).at_bottom);
      tie = λ e. absurd (omega (arith, h, e, (flip_y_sides t tiling).at_top, (flip_y_sides t tiling).at_bottom));
    })
    cases (inr (inr h)) (inl o) = flip_across t tiling f (record { level = omega (arith, h); tie = λ e. o })
    cases (inr (inr h)) (inr o) = flipped (record {
      level = omega (arith, h, (flip_y_sides t tiling).at_top, (flip_y_sides t tiling).at_bottom);
      tie = λ e. omega (arith, o, (corners_y t tiling).0, (corners_y t tiling).1);
    })

-- the tiling, or it with columns and levels exchanged
module _ (t : Tiling) (tiling : IsTiling t) where
  turned : IsTiling (image Swap t)
  turned = images_are_tilings t Swap tiling

  swapped : IsNoGreater (more_level t) (fewer_level t) t.width (more_across t) (fewer_across t) t.height
      → IsNoGreater (more_across (image Swap t)) (fewer_across (image Swap t)) t.width (more_level (image Swap t)) (fewer_level (image Swap t)) t.height
  swapped h = same h
    where
      across : (more_across (image Swap t) ≡ more_level t) × (fewer_across (image Swap t) ≡ fewer_level t)
      across = max_min-of_these (counts_of t).top (counts_of t).bottom (counts_of (image Swap t)).left (counts_of (image Swap t)).right
          (inl ((swap_sides t tiling).at_left, (swap_sides t tiling).at_right))

      level : (more_level (image Swap t) ≡ more_across t) × (fewer_level (image Swap t) ≡ fewer_across t)
      level = max_min-of_these (counts_of t).left (counts_of t).right (counts_of (image Swap t)).top (counts_of (image Swap t)).bottom
          (inl ((swap_sides t tiling).at_top, (swap_sides t tiling).at_bottom))

      same : IsNoGreater (more_level t) (fewer_level t) t.width (more_across t) (fewer_across t) t.height
          → IsNoGreater (more_across (image Swap t)) (fewer_across (image Swap t)) t.width (more_level (image Swap t)) (fewer_level (image Swap t)) t.height
      same (first a) = first (omega (arith, a, across.0, level.0))
      same (second a b) = second (omega (arith, a, across.0, level.0)) (omega (arith, b, across.1, level.1))
      same (third a b c) = third (omega (arith, a, across.0, level.0)) (omega (arith, b, across.1, level.1)) c

  -- the nodes of both are at most three more than the squares
  which : (2 * (groups_of t + 1) < order t + 3) ⊎ ((2 * (groups_of (image Swap t) + 1) < order t + 3)
      ⊎ ((2 * (groups_of t + 1) ≡ order t + 3) × (2 * (groups_of (image Swap t) + 1) ≡ order t + 3)))
  which = one_of (2 * (groups_of t + 1)) (2 * (groups_of (image Swap t) + 1)) (order t + 3) (omega (arith, both_groups t tiling))
    where
      one_of : (a b n : ℕ) → a + b ≤ 2 * n → (a < n) ⊎ ((b < n) ⊎ ((a ≡ n) × (b ≡ n)))
      one_of a b n h = grind arith

  normal_image : HasNormalImage t
  normal_image = cases which (no_greater (more_across t) (fewer_across t) t.height (more_level t) (fewer_level t) t.width)
    where
      fewer : (u : Tiling) → 2 * (groups_of u + 1) < order u + 3 → AreFew u
      fewer u h = record {
        few = omega (arith, h);
        more = λ e. absurd (omega (arith, h, e));
        fewer = λ e. absurd (omega (arith, h, e));
        size = λ e. absurd (omega (arith, h, e));
      }

      cases : (2 * (groups_of t + 1) < order t + 3) ⊎ ((2 * (groups_of (image Swap t) + 1) < order t + 3)
          ⊎ ((2 * (groups_of t + 1) ≡ order t + 3) × (2 * (groups_of (image Swap t) + 1) ≡ order t + 3)))
          → IsNoGreater (more_across t) (fewer_across t) t.height (more_level t) (fewer_level t) t.width
          ⊎ IsNoGreater (more_level t) (fewer_level t) t.width (more_across t) (fewer_across t) t.height → HasNormalImage t
      cases (inl h) o = flip_level t tiling (fewer t h)
      cases (inr (inl h)) o = from_image t tiling Swap (flip_level (image Swap t) turned (fewer (image Swap t) (omega (arith, h, image_order t Swap))))
      cases (inr (inr h)) (inl o) = flip_level t tiling (few_from t (omega (arith, h.0)) o)
      cases (inr (inr h)) (inr o) = from_image t tiling Swap (flip_level (image Swap t) turned
          (few_from (image Swap t) (omega (arith, h.1, image_order t Swap)) (swapped o)))

-- the law
pub each_tiling_has_a_normal_image : EachTilingHasANormalImage
each_tiling_has_a_normal_image t tiling = normal_image t tiling
