-- Images and canonical tilings.
use Rattle.std.specs.Prelude.{[], refl, ◌∷◌, ◌≡◌}
use Rattle.std.proofs.Common.{lit≤}
use Rattle.bk_tiling.proofs.ExampleTilings.{rectangle_33x32, rectangle_3x2, rectangle_69x61, turned_33x32}
use Rattle.bk_code.specs.Code.{code_of}
use Rattle.bk_tiling.specs.Scale.{enlarged}
use Rattle.bk_sym.proofs.CanonicalTests.{canonical_by_test}
use Rattle.bk_sym.specs.Canonical.{IsCanonical, IsCanonicalOf, scaled_down_tiling}
use Rattle.bk_sym.specs.Image.{image}
use Rattle.bk_sym.specs.Turns.{after, undoing}
use Rattle.bk_sym.specs.declared.Turn.TheVariants.{FlipX, Half, Same, Swap, SwapFlipX, SwapFlipY, SwapHalf}

code-FlipX : code_of (image FlipX rectangle_3x2) ≡ (1 ∷ 2 ∷ []) ∷ (1 ∷ []) ∷ []
code-FlipX = refl

code-Half : code_of (image Half rectangle_3x2) ≡ (1 ∷ 2 ∷ []) ∷ (1 ∷ []) ∷ []
code-Half = refl

code-Swap : code_of (image Swap rectangle_3x2) ≡ (2 ∷ []) ∷ (1 ∷ 1 ∷ []) ∷ []
code-Swap = refl

code-SwapHalf : code_of (image SwapHalf rectangle_3x2) ≡ (1 ∷ 1 ∷ []) ∷ (2 ∷ []) ∷ []
code-SwapHalf = refl

code-turned : code_of turned_33x32 ≡ (36 ∷ 28 ∷ []) ∷ (8 ∷ 20 ∷ []) ∷ (30 ∷ 14 ∷ []) ∷ (2 ∷ 18 ∷ []) ∷ (16 ∷ []) ∷ []
code-turned = refl

-- in lowest terms it is half as large
scaled-turned : turned_33x32 ≡ enlarged 2 (scaled_down_tiling turned_33x32)
scaled-turned = refl

-- its canonical tiling
canonical-turned : IsCanonicalOf turned_33x32 rectangle_33x32
canonical-turned = canonical_by_test turned_33x32 rectangle_33x32 Swap refl (lit≤ tt) refl

-- the larger of the two is its own canonical tiling
canonical-69x61 : IsCanonical rectangle_69x61
canonical-69x61 = canonical_by_test rectangle_69x61 rectangle_69x61 Same refl (lit≤ tt) refl

-- two quarter turns are a half turn, and the two quarter turns undo each other
quarter-twice : after SwapFlipX SwapFlipX ≡ Half
quarter-twice = refl

quarter-undone : after SwapFlipY SwapFlipX ≡ Same
quarter-undone = refl

undone-quarter : undoing SwapFlipX ≡ SwapFlipY
undone-quarter = refl
