-- Canonical tilings by a test, for worked examples: of the eight images of a tiling none that lies has a greater flat list.
use Rattle.std.specs.Cmp.Lexicographic.{slice_cmp}
use Rattle.std.specs.Ordering.{is_le, nat_cmp}
use Rattle.std.proofs.Common.{Bool, arith, nat_lt, true, ◌&&◌, ◌≡◌, ◌||◌}
use Rattle.std.proofs.lemmas.Bool.{ltb-true}
use Rattle.bk_tiling.specs.Tiling.{Tiling}
use Rattle.bk_code.specs.Code.{code_of, flat}
use Rattle.bk_sym.specs.Canonical.{IsAtMost, IsCanonicalOf, IsGreatestImage, Lies, scaled_down_tiling}
use Rattle.bk_sym.specs.Image.{image}
use Rattle.bk_sym.specs.declared.Turn.{Turn}
use Rattle.bk_sym.specs.declared.Turn.TheVariants.{FlipX, FlipY, Half, Same, Swap, SwapFlipX, SwapFlipY, SwapHalf}
use Rattle.bk_laws.proofs.Truth.{and-left_true, and-right_true, or-elim}

-- this image is higher than wide, or its flat list is at most that of c
abbrev passes : Tiling → Tiling → Turn → Bool
passes t c turn = nat_lt (image turn t).width (image turn t).height
    || is_le (slice_cmp nat_cmp (flat (code_of (image turn t))) (flat (code_of c)))

-- a test of all eight images passes
abbrev pub all_turns : (Turn → Bool) → Bool
all_turns p = p Same && (p FlipX && (p FlipY && (p Half && (p Swap && (p SwapFlipX && (p SwapFlipY && (p SwapHalf)))))))

-- each of the eight images is higher than wide, or its flat list is at most that of c
abbrev pub has_no_greater : Tiling → Tiling → Bool
has_no_greater t c = all_turns (passes t c)

each_turn : (p : Turn → Bool) → all_turns p ≡ true → (turn : Turn) → p turn ≡ true
each_turn p e = elim [
  | Same ↦ and-left_true (p Same) (p FlipX && (p FlipY && (p Half && (p Swap && (p SwapFlipX && (p SwapFlipY && (p SwapHalf))))))) e
  | FlipX ↦ and-left_true (p FlipX) (p FlipY && (p Half && (p Swap && (p SwapFlipX && (p SwapFlipY && (p SwapHalf)))))) r1
  | FlipY ↦ and-left_true (p FlipY) (p Half && (p Swap && (p SwapFlipX && (p SwapFlipY && (p SwapHalf))))) r2
  | Half ↦ and-left_true (p Half) (p Swap && (p SwapFlipX && (p SwapFlipY && (p SwapHalf)))) r3
  | Swap ↦ and-left_true (p Swap) (p SwapFlipX && (p SwapFlipY && (p SwapHalf))) r4
  | SwapFlipX ↦ and-left_true (p SwapFlipX) (p SwapFlipY && (p SwapHalf)) r5
  | SwapFlipY ↦ and-left_true (p SwapFlipY) (p SwapHalf) r6
  | SwapHalf ↦ r7
]
  where
    r1 : (p FlipX && (p FlipY && (p Half && (p Swap && (p SwapFlipX && (p SwapFlipY && (p SwapHalf))))))) ≡ true
    r1 = and-right_true (p Same) (p FlipX && (p FlipY && (p Half && (p Swap && (p SwapFlipX && (p SwapFlipY && (p SwapHalf))))))) e

    r2 : (p FlipY && (p Half && (p Swap && (p SwapFlipX && (p SwapFlipY && (p SwapHalf)))))) ≡ true
    r2 = and-right_true (p FlipX) (p FlipY && (p Half && (p Swap && (p SwapFlipX && (p SwapFlipY && (p SwapHalf)))))) r1

    r3 : (p Half && (p Swap && (p SwapFlipX && (p SwapFlipY && (p SwapHalf))))) ≡ true
    r3 = and-right_true (p FlipY) (p Half && (p Swap && (p SwapFlipX && (p SwapFlipY && (p SwapHalf))))) r2

    r4 : (p Swap && (p SwapFlipX && (p SwapFlipY && (p SwapHalf)))) ≡ true
    r4 = and-right_true (p Half) (p Swap && (p SwapFlipX && (p SwapFlipY && (p SwapHalf)))) r3

    r5 : (p SwapFlipX && (p SwapFlipY && (p SwapHalf))) ≡ true
    r5 = and-right_true (p Swap) (p SwapFlipX && (p SwapFlipY && (p SwapHalf))) r4

    r6 : (p SwapFlipY && (p SwapHalf)) ≡ true
    r6 = and-right_true (p SwapFlipX) (p SwapFlipY && (p SwapHalf)) r5

    r7 : (p SwapHalf) ≡ true
    r7 = and-right_true (p SwapFlipY) (p SwapHalf) r6

passed : (t c : Tiling) (turn : Turn) → passes t c turn ≡ true → Lies (image turn t) → IsAtMost (image turn t) c
passed t c turn e lies = or-elim (nat_lt (image turn t).width (image turn t).height)
    (is_le (slice_cmp nat_cmp (flat (code_of (image turn t))) (flat (code_of c))))
    (λ h. absurd (omega (arith, lies, ltb-true (image turn t).width (image turn t).height h))) (λ h. h) e

-- c is canonical for t if it is one of the images of t in lowest terms, lies, and the test passes
pub canonical_by_test : (t c : Tiling) (turn : Turn) → c ≡ image turn (scaled_down_tiling t) → Lies c → has_no_greater (scaled_down_tiling t) c ≡ true
    → IsCanonicalOf t c
canonical_by_test t c turn is lies test = record { turn = turn; image_of = is; lying = lies; greatest = greatest }
  where
    greatest : IsGreatestImage (scaled_down_tiling t) c
    greatest turn = passed (scaled_down_tiling t) c turn (each_turn (passes (scaled_down_tiling t) c) test turn)
