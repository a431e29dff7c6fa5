-- Tilings enlarged: their divisors, and their images.
use Rattle.std.proofs.Common.{Bool, List, [], ap, arith, cond, false, inl, inr, map, refl, sym, true, ℕ, ◌*◌, ◌+◌, ◌<◌, ◌∙◌, ◌∷◌, ◌≡◌, ◌≤◌, ◌⊎◌}
use Rattle.std.proofs.Math.Nat.{mul-le-mul_left}
use Rattle.std.proofs.lemmas.Bool.{both_ways, cases_Bool, cases_lt}
use Rattle.bk_laws.proofs.Products.{mul_below, mul_one}
use Rattle.bk_laws.proofs.Multiples.{mul-far_side}
use Rattle.bk_frac.specs.Divisor.{gcd, gcd_of}
use Rattle.bk_tiling.proofs.Scaling.{before_cases, before_from}
use Rattle.bk_tiling.proofs.TilingLaws.{within_of}
use Rattle.bk_tiling.specs.CodeOrder.{comes_before, in_code_order, with_square}
use Rattle.bk_tiling.specs.Scale.{enlarged, enlarged_square}
use Rattle.bk_tiling.specs.Tiling.{IsOneOf, IsTiling, Tiling}
use Rattle.bk_tiling.specs.declared.Square.{Square}
use Rattle.bk_frac.proofs.Coprime.{gcd-mul}
use Rattle.bk_sym.proofs.Composing.{square_same}
use Rattle.bk_sym.proofs.ScaledDown.{side_divisor}
use Rattle.bk_sym.specs.Image.{image, image_size, image_square}
use Rattle.bk_sym.specs.declared.Turn.{Turn}
use Rattle.bk_sym.specs.declared.Turn.TheVariants.{FlipX, FlipY, Half, Same, Swap, SwapFlipX, SwapFlipY, SwapHalf}

side_divisor-enlarged : (k : ℕ) (squares : List Square) → 0 < k
    → gcd_of (map (λ q. q.s) (map (enlarged_square k) squares)) ≡ k * gcd_of (map (λ q. q.s) squares)
side_divisor-enlarged k [] some = omega arith
side_divisor-enlarged k (q ∷ squares) some =
    ap (gcd (k * q.s)) (side_divisor-enlarged k squares some) ∙ gcd-mul k q.s (gcd_of (map (λ q. q.s) squares)) some

-- a tiling enlarged has so many times the divisor
pub divisor_of_multiple : (k : ℕ) (t : Tiling) → 0 < k → side_divisor (enlarged k t) ≡ k * side_divisor t
divisor_of_multiple k t some = side_divisor-enlarged k t.squares some

-- squares enlarged stand in the order in which they stood
before_enlarged : (k : ℕ) (q r : Square) → 0 < k → comes_before (enlarged_square k q) (enlarged_square k r) ≡ comes_before q r
before_enlarged k q r some = cases (cases_Bool (comes_before q r)) (cases_Bool (comes_before (enlarged_square k q) (enlarged_square k r)))
  where
    up : (q.y < r.y) ⊎ ((q.y ≡ r.y) × (q.x < r.x)) → (k * q.y < k * r.y) ⊎ ((k * q.y ≡ k * r.y) × (k * q.x < k * r.x))
    up (inl h) = inl (mul_below k q.y r.y some h)
    up (inr h) = inr (ap (λ (n : ℕ). k * n) h.0, mul_below k q.x r.x some h.1)

    below : (a b : ℕ) → k * a < k * b → a < b
    below a b h = from (cases_lt a b)
      where
        from : (a < b) ⊎ (b ≤ a) → a < b
        from (inl l) = l
        from (inr l) = absurd (omega (arith, h, mul-le-mul_left k l))

    down : (k * q.y < k * r.y) ⊎ ((k * q.y ≡ k * r.y) × (k * q.x < k * r.x)) → (q.y < r.y) ⊎ ((q.y ≡ r.y) × (q.x < r.x))
    down (inl h) = inl (below q.y r.y h)
    down (inr h) = inr (mul_one k q.y r.y some h.0, below q.x r.x h.1)

    cases : (comes_before q r ≡ true) ⊎ (comes_before q r ≡ false) → (comes_before (enlarged_square k q) (enlarged_square k r) ≡ true)
        ⊎ (comes_before (enlarged_square k q) (enlarged_square k r) ≡ false)
        → comes_before (enlarged_square k q) (enlarged_square k r) ≡ comes_before q r
    cases (inl a) b = before_from (enlarged_square k q) (enlarged_square k r) (up (before_cases q r a)) ∙ sym a
    cases (inr a) (inl b) = absurd (both_ways (comes_before q r) a (before_from q r (down (before_cases (enlarged_square k q) (enlarged_square k r) b))))
    cases (inr a) (inr b) = b ∙ sym a

with_enlarged : (k : ℕ) (q : Square) (squares : List Square) → 0 < k → with_square (enlarged_square k q) (map (enlarged_square k) squares)
    ≡ map (enlarged_square k) (with_square q squares)
with_enlarged k q [] some = refl
with_enlarged k q (r ∷ squares) some =
    ap (λ b. cond b (enlarged_square k q ∷ enlarged_square k r ∷ map (enlarged_square k) squares)
    (enlarged_square k r ∷ with_square (enlarged_square k q) (map (enlarged_square k) squares))) (before_enlarged k q r some)
    ∙ cases (comes_before q r) (with_enlarged k q squares some)
  where
    cases : (b : Bool) → with_square (enlarged_square k q) (map (enlarged_square k) squares) ≡ map (enlarged_square k) (with_square q squares)
        → cond b (enlarged_square k q ∷ enlarged_square k r ∷ map (enlarged_square k) squares)
        (enlarged_square k r ∷ with_square (enlarged_square k q) (map (enlarged_square k) squares))
        ≡ map (enlarged_square k) (cond b (q ∷ r ∷ squares) (r ∷ with_square q squares))
    cases true e = refl
    cases false e = ap (λ (rest : List Square). enlarged_square k r ∷ rest) e

order_enlarged : (k : ℕ) (squares : List Square) → 0 < k → in_code_order (map (enlarged_square k) squares) ≡ map (enlarged_square k) (in_code_order squares)
order_enlarged k [] some = refl
order_enlarged k (q ∷ squares) some = ap (with_square (enlarged_square k q)) (order_enlarged k squares some) ∙ with_enlarged k q (in_code_order squares) some

image_square-enlarged : (turn : Turn) (k w h : ℕ) (q : Square) → q.x + q.s ≤ w → q.y + q.s ≤ h
    → image_square turn (k * w) (k * h) (enlarged_square k q) ≡ enlarged_square k (image_square turn w h q)
image_square-enlarged Same k w h q right bottom = refl
image_square-enlarged FlipX k w h q right bottom = square_same _ _ (mul-far_side k w q.x q.s right) refl refl
image_square-enlarged FlipY k w h q right bottom = square_same _ _ refl (mul-far_side k h q.y q.s bottom) refl
image_square-enlarged Half k w h q right bottom = square_same _ _ (mul-far_side k w q.x q.s right) (mul-far_side k h q.y q.s bottom) refl
image_square-enlarged Swap k w h q right bottom = refl
image_square-enlarged SwapFlipX k w h q right bottom = square_same _ _ (mul-far_side k h q.y q.s bottom) refl refl
image_square-enlarged SwapFlipY k w h q right bottom = square_same _ _ refl (mul-far_side k w q.x q.s right) refl
image_square-enlarged SwapHalf k w h q right bottom = square_same _ _ (mul-far_side k h q.y q.s bottom) (mul-far_side k w q.x q.s right) refl

size-enlarged : (turn : Turn) (k w h : ℕ) → image_size turn (k * w) (k * h) ≡ (k * (image_size turn w h).0, k * (image_size turn w h).1)
size-enlarged Same k w h = refl
size-enlarged FlipX k w h = refl
size-enlarged FlipY k w h = refl
size-enlarged Half k w h = refl
size-enlarged Swap k w h = refl
size-enlarged SwapFlipX k w h = refl
size-enlarged SwapFlipY k w h = refl
size-enlarged SwapHalf k w h = refl

list-image : (turn : Turn) (k w h : ℕ) (squares : List Square) → ((q : Square) → IsOneOf q squares → (q.x + q.s ≤ w) × (q.y + q.s ≤ h))
    → map (image_square turn (k * w) (k * h)) (map (enlarged_square k) squares) ≡ map (enlarged_square k) (map (image_square turn w h) squares)
list-image turn k w h [] within = refl
list-image turn k w h (q ∷ squares) within = λ i.
    image_square-enlarged turn k w h q (within q (inl refl)).0 (within q (inl refl)).1 i ∷ list-image turn k w h squares (λ r m. within r (inr m)) i

-- an image of a tiling enlarged is its image, enlarged
pub image-enlarged : (turn : Turn) (k : ℕ) (t : Tiling) → 0 < k → IsTiling t → image turn (enlarged k t) ≡ enlarged k (image turn t)
image-enlarged turn k t some tiling = λ i. record {
  width = (size-enlarged turn k t.width t.height i).0;
  height = (size-enlarged turn k t.width t.height i).1;
  squares = squares i;
}
  where
    squares : in_code_order (map (image_square turn (k * t.width) (k * t.height)) (map (enlarged_square k) t.squares))
        ≡ map (enlarged_square k) (in_code_order (map (image_square turn t.width t.height) t.squares))
    squares = ap in_code_order (list-image turn k t.width t.height t.squares (λ q m. let w = within_of t tiling q m in
        (omega (arith, w.right), omega (arith, w.bottom))))
        ∙ order_enlarged k (map (image_square turn t.width t.height) t.squares) some
