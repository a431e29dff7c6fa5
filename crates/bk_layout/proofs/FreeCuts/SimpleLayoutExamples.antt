-- The layout of the rectangle 33x32, which is simple, and that of 3x2 of the squares 2, 1, 1, which is compound.
use Rattle.std.proofs.Common.{arith, inl, inr, lit<, lit≤, refl, suc, zero, ℕ, ◌<◌, ◌≡◌, ◌≢◌, ◌⊎◌}
use Rattle.bk_tiling.proofs.ExampleTilings.{rectangle_33x32, rectangle_3x2}
use Rattle.bk_tiling.proofs.TilingTest.{tiling_from_test}
use Rattle.bk_tiling.specs.Tiling.{IsTiling}
use Rattle.bk_simple.proofs.SimpleTest.{simple_from_test}
use Rattle.bk_layout.specs.Layout.{Layout}
use Rattle.bk_layout.proofs.FreeCuts.SimpleFits.{a_simple_tiling_has_a_simple_layout}
use Rattle.bk_layout.specs.SimpleLayout.{AreOutermost, HasNoPairs, HasNoParts, HasOneBetween, IsSimpleLayout, Touches}
use Rattle.bk_layout.specs.TilingLayout.{layout_of}

simple-33x32 : IsSimpleLayout (layout_of rectangle_33x32)
simple-33x32 = a_simple_tiling_has_a_simple_layout rectangle_33x32 tiling (simple_from_test rectangle_33x32 tiling refl) (lit≤ tt)
  where
    tiling : IsTiling rectangle_33x32
    tiling = tiling_from_test rectangle_33x32 refl

-- ---- in 3x2 the line between has the number 10, and the node between the two squares of side 1 the number 1

abbrev three : Layout
three = layout_of rectangle_3x2

-- that node has square 1 above and square 2 below
has_a_pair : HasNoPairs three → ⊥
has_a_pair none = none 1 refl refl

-- the line between touches the top beside square 1, and the bottom beside square 2
between_top : Touches three 10 0
between_top = record { square = 1; within = lit< tt; beside = inl refl; at = inl refl }

between_bottom : Touches three 10 2
between_bottom = record { square = 2; within = lit< tt; beside = inl refl; at = inr refl }

-- and so does the right wall
wall_top : Touches three 1 0
wall_top = record { square = 1; within = lit< tt; beside = inr refl; at = inl refl }

wall_bottom : Touches three 1 2
wall_bottom = record { square = 2; within = lit< tt; beside = inr refl; at = inr refl }

-- no one square lies between them, and they aren't the outermost
none_between : HasOneBetween three 10 1 0 2 → ⊥
none_between one = from one.square one.within one.left one.above one.under
  where
    from : (q : ℕ) → q < 3 → (three.left q ≡ 10) ⊎ (three.left q ≡ 1) → (three.above q ≡ 0) ⊎ (three.above q ≡ 2)
        → (three.below q ≡ 0) ⊎ (three.below q ≡ 2) → ⊥
    from zero within (inl e) above under = omega (arith, e)
    from zero within (inr e) above under = omega (arith, e)
    from (suc zero) within left above (inl e) = omega (arith, e)
    from (suc zero) within left above (inr e) = omega (arith, e)
    from (suc (suc zero)) within left (inl e) under = omega (arith, e)
    from (suc (suc zero)) within left (inr e) under = omega (arith, e)
    from (suc (suc (suc q))) within left above under = omega (arith, within)

not_outermost : AreOutermost three 10 1 0 2 → ⊥
not_outermost are = from 10 1 are.lines (λ e. omega (arith, e)) (λ e. omega (arith, e))
  where
    from : (f g : ℕ) → ((f ≡ 0) × (g ≡ 1)) ⊎ ((f ≡ 1) × (g ≡ 0)) → f ≢ 0 → f ≢ 1 → ⊥
    from f g (inl e) left right = left e.0
    from f g (inr e) left right = right e.0

has_a_part : HasNoParts three → ⊥
has_a_part none = from (none 10 1 0 2 (λ e. omega (arith, e)) (λ e. omega (arith, e)) between_top between_bottom wall_top wall_bottom)
  where
    from : HasOneBetween three 10 1 0 2 ⊎ AreOutermost three 10 1 0 2 → ⊥
    from (inl one) = none_between one
    from (inr are) = not_outermost are
