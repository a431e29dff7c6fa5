-- A tiling has at most one canonical tiling; and where it is its own, it is in lowest terms.
use Rattle.std.specs.List.{AllByRecursion}
use Rattle.std.proofs.Common.{Bool, List, [], ap, arith, cond, false, inl, inr, length, map, refl, subst, sym, true, ℕ, ◌*◌, ◌+◌, ◌<◌, ◌∙◌, ◌∷◌, ◌≡◌, ◌≤◌, ◌⊎◌}
use Rattle.bk_laws.proofs.Products.{mul_one}
use Rattle.bk_laws.proofs.Orderings.{slice_cmp-antisymmetric}
use Rattle.bk_tiling.proofs.EnlargedTilings.{enlarged-once}
use Rattle.bk_tiling.specs.CodeOrder.{comes_before, in_code_order, with_square}
use Rattle.bk_tiling.specs.Scale.{enlarged, enlarged_square}
use Rattle.bk_tiling.specs.Tiling.{IsTiling, Tiling}
use Rattle.bk_tiling.specs.declared.Square.{Square}
use Rattle.bk_code.proofs.FlatList.{a_flat_list_fixes_a_tiling}
use Rattle.bk_code.specs.Code.{code_of, flat}
use Rattle.bk_sym.proofs.Images.{images_are_tilings}
use Rattle.bk_sym.proofs.KeptImages.{side-image_square}
use Rattle.bk_sym.proofs.ScaledDown.{scaled_is_tiling, side_divisor, whole_again}
use Rattle.bk_sym.specs.Canonical.{IsAtMost, IsCanonical, scaled_down_tiling}
use Rattle.bk_sym.specs.Image.{image, image_square}
use Rattle.bk_sym.specs.ImageLaws.{ACanonicalTilingIsOne}
use Rattle.bk_sym.specs.declared.Turn.{Turn}
use Rattle.bk_sym.specs.declared.Turn.TheVariants.{FlipX, FlipY, Half, Same, Swap, SwapFlipX, SwapFlipY, SwapHalf}

abbrev SameSize : Tiling → Tiling → Type 0
SameSize s i = ((i.width ≡ s.width) × (i.height ≡ s.height)) ⊎ ((i.width ≡ s.height) × (i.height ≡ s.width))

size : (s : Tiling) (turn : Turn) → SameSize s (image turn s)
size s Same = inl (refl, refl)
size s FlipX = inl (refl, refl)
size s FlipY = inl (refl, refl)
size s Half = inl (refl, refl)
size s Swap = inr (refl, refl)
size s SwapFlipX = inr (refl, refl)
size s SwapFlipY = inr (refl, refl)
size s SwapHalf = inr (refl, refl)

same_width : (s u v : Tiling) → SameSize s u → SameSize s v → u.height ≤ u.width → v.height ≤ v.width → u.width ≡ v.width
same_width s u v (inl a) (inl b) c d = omega (arith, a.0, b.0)
same_width s u v (inl a) (inr b) c d = omega (arith, a.0, a.1, b.0, b.1)
same_width s u v (inr a) (inl b) c d = omega (arith, a.0, a.1, b.0, b.1)
same_width s u v (inr a) (inr b) c d = omega (arith, a.0, b.0)

-- a tiling has at most one canonical tiling
pub a_canonical_tiling_is_one : ACanonicalTilingIsOne
a_canonical_tiling_is_one t u v tiling a b = (
  u_is,
  a_flat_list_fixes_a_tiling u v u_is v_is
      (same_width (scaled_down_tiling t) u v (subst (SameSize (scaled_down_tiling t)) (sym a.image_of) (size (scaled_down_tiling t) a.turn))
      (subst (SameSize (scaled_down_tiling t)) (sym b.image_of) (size (scaled_down_tiling t) b.turn)) a.lying b.lying)
      (slice_cmp-antisymmetric (flat (code_of u)) (flat (code_of v)) u_least v_least),
)
  where
    u_is : IsTiling u
    u_is = subst IsTiling (sym a.image_of) (images_are_tilings (scaled_down_tiling t) a.turn (scaled_is_tiling t tiling))

    v_is : IsTiling v
    v_is = subst IsTiling (sym b.image_of) (images_are_tilings (scaled_down_tiling t) b.turn (scaled_is_tiling t tiling))

    u_least : IsAtMost u v
    u_least = subst (λ (i : Tiling). IsAtMost i v) (sym a.image_of) (b.greatest a.turn (subst (λ (i : Tiling). i.height ≤ i.width) a.image_of a.lying))

    v_least : IsAtMost v u
    v_least = subst (λ (i : Tiling). IsAtMost i u) (sym b.image_of) (a.greatest b.turn (subst (λ (i : Tiling). i.height ≤ i.width) b.image_of b.lying))

-- the sum of the sides
abbrev pub side_sum : List Square → ℕ
side_sum [] = 0
side_sum (q ∷ squares) = q.s + side_sum squares

sum_with : (q : Square) (squares : List Square) → side_sum (with_square q squares) ≡ q.s + side_sum squares
sum_with q [] = refl
sum_with q (r ∷ squares) = cases (comes_before q r) (sum_with q squares)
  where
    cases : (b : Bool) → side_sum (with_square q squares) ≡ q.s + side_sum squares → side_sum (cond b (q ∷ r ∷ squares) (r ∷ with_square q squares))
        ≡ q.s + (r.s + side_sum squares)
    cases true e = refl
    cases false e = omega (arith, e)

sum_order : (squares : List Square) → side_sum (in_code_order squares) ≡ side_sum squares
sum_order [] = refl
sum_order (q ∷ squares) = omega (arith, sum_with q (in_code_order squares), sum_order squares)

sum_map : (f : Square → Square) → ((q : Square) → (f q).s ≡ q.s) → (squares : List Square) → side_sum (map f squares) ≡ side_sum squares
sum_map f e [] = refl
sum_map f e (q ∷ squares) = omega (arith, e q, sum_map f e squares)

sum_enlarged : (k : ℕ) (squares : List Square) → side_sum (map (enlarged_square k) squares) ≡ k * side_sum squares
sum_enlarged k [] = omega arith
sum_enlarged k (q ∷ squares) = omega (arith, sum_enlarged k squares)

sum_image : (turn : Turn) (t : Tiling) → side_sum (image turn t).squares ≡ side_sum t.squares
sum_image turn t = sum_order (map (image_square turn t.width t.height) t.squares)
    ∙ sum_map (image_square turn t.width t.height) (side-image_square turn t.width t.height) t.squares

-- a tiling that is its own canonical one is not scaled down
pub own_canonical : (t : Tiling) → IsTiling t → IsCanonical t → scaled_down_tiling t ≡ t
own_canonical t tiling c = sym same
  where
    shape : side_sum t.squares ≡ side_divisor t * side_sum (scaled_down_tiling t).squares
    shape = ap (λ (s : Tiling). side_sum s.squares) (whole_again t tiling) ∙ sum_enlarged (side_divisor t) (scaled_down_tiling t).squares

    image : side_sum t.squares ≡ side_sum (scaled_down_tiling t).squares
    image = ap (λ (s : Tiling). side_sum s.squares) c.image_of ∙ sum_image c.turn (scaled_down_tiling t)

    some : 0 < side_sum t.squares
    some = from t.squares (tiling.tiles).some (tiling.tiles).sides
      where
        from : (squares : List Square) → 0 < length squares → AllByRecursion (λ q. 0 < q.s) squares → 0 < side_sum squares
        from [] h a = absurd (omega arith)
        from (q ∷ squares) h a = omega (arith, a.0)

    one : side_divisor t ≡ 1
    one = mul_one (side_sum (scaled_down_tiling t).squares) (side_divisor t) 1 (omega (arith, some, image)) (omega (arith, shape, image))

    same : t ≡ scaled_down_tiling t
    same = whole_again t tiling ∙ ap (λ (k : ℕ). enlarged k (scaled_down_tiling t)) one ∙ enlarged-once (scaled_down_tiling t)
