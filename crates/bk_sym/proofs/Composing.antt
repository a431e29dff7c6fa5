-- Images of images.
use Rattle.std.proofs.Common.{List, [], ap, arith, map, refl, subst, sym, ℕ, ◌+◌, ◌∙◌, ◌∷◌, ◌≡◌, ◌≤◌}
use Rattle.bk_tiling.proofs.OrderLaws.{in_code_order-same}
use Rattle.bk_tiling.proofs.PuttingInOrder.{from_order, in_order}
use Rattle.bk_tiling.proofs.Scaling.{same_members}
use Rattle.bk_tiling.proofs.TilingLaws.{within_of}
use Rattle.bk_tiling.specs.CodeOrder.{in_code_order}
use Rattle.bk_tiling.specs.Tiling.{IsOneOf, IsTiling, Tiling}
use Rattle.bk_tiling.specs.declared.Square.{Square}
use Rattle.bk_sym.proofs.Images.{from_map, images_are_tilings, in_map}
use Rattle.bk_sym.specs.Image.{image, image_size, image_square}
use Rattle.bk_sym.specs.ImageLaws.{ImagesAreUndone, ImagesOfImages}
use Rattle.bk_sym.specs.Turns.{after, then_flip_x, then_flip_y, then_swap, undoing}
use Rattle.bk_sym.specs.declared.Turn.{Turn}
use Rattle.bk_sym.specs.declared.Turn.TheVariants.{FlipX, FlipY, Half, Same, Swap, SwapFlipX, SwapFlipY, SwapHalf}

-- squares with the same place and side are one
pub square_same : (p q : Square) → p.x ≡ q.x → p.y ≡ q.y → p.s ≡ q.s → p ≡ q
square_same p q ex ey es = λ i. record { x = ex i; y = ey i; s = es i }

-- the turns b and then a do to squares and to sizes what c does
pub record Composes (a b c : Turn) : Type 0 where
  pub size : (w h : ℕ) → image_size a (image_size b w h).0 (image_size b w h).1 ≡ image_size c w h
  pub square : (w h : ℕ) (q : Square) → q.x + q.s ≤ w → q.y + q.s ≤ h
      → image_square a (image_size b w h).0 (image_size b w h).1 (image_square b w h q) ≡ image_square c w h q

composed : (a b c : Turn) → Composes a b c → (t : Tiling) → IsTiling t → image a (image b t) ≡ image c t
composed a b c same t tiling = λ i. record { width = (same.size t.width t.height i).0; height = (same.size t.width t.height i).1; squares = squares i }
  where
    at : (q : Square) → IsOneOf q t.squares → image_square a (image b t).width (image b t).height (image_square b t.width t.height q)
        ≡ image_square c t.width t.height q
    at q h = let w = within_of t tiling q h in same.square t.width t.height q (omega (arith, w.right)) (omega (arith, w.bottom))

    forth : (p : Square) → IsOneOf p (image a (image b t)).squares → IsOneOf p (image c t).squares
    forth p h =
        let two = from_map (image_square a (image b t).width (image b t).height) (image b t).squares p
        (from_order (map (image_square a (image b t).width (image b t).height) (image b t).squares) p h) in
        let one = from_map (image_square b t.width t.height) t.squares two.0 (from_order (map (image_square b t.width t.height) t.squares) two.0 two.1) in
        let e : p ≡ image_square c t.width t.height one.0 = two.2 ∙ ap (image_square a (image b t).width (image b t).height) one.2 ∙ at one.0 one.1 in
        subst (λ (q : Square). IsOneOf q (image c t).squares) (sym e)
        (in_order (map (image_square c t.width t.height) t.squares) (image_square c t.width t.height one.0)
        (in_map (image_square c t.width t.height) t.squares one.0 one.1))

    back : (p : Square) → IsOneOf p (image c t).squares → IsOneOf p (image a (image b t)).squares
    back p h =
        let one = from_map (image_square c t.width t.height) t.squares p (from_order (map (image_square c t.width t.height) t.squares) p h) in
        let e : p ≡ image_square a (image b t).width (image b t).height (image_square b t.width t.height one.0) = one.2 ∙ sym (at one.0 one.1) in
        let mid = in_order (map (image_square b t.width t.height) t.squares) (image_square b t.width t.height one.0)
        (in_map (image_square b t.width t.height) t.squares one.0 one.1) in
        subst (λ (q : Square). IsOneOf q (image a (image b t)).squares) (sym e)
        (in_order (map (image_square a (image b t).width (image b t).height) (image b t).squares) _
        (in_map (image_square a (image b t).width (image b t).height) (image b t).squares (image_square b t.width t.height one.0) mid))

    squares : (image a (image b t)).squares ≡ (image c t).squares
    squares = same_members (image a (image b t)).squares (image c t).squares
        (images_are_tilings (image b t) a (images_are_tilings t b tiling)).ordered (images_are_tilings t c tiling).ordered forth back

flip_x : (b : Turn) → Composes FlipX b (then_flip_x b)
flip_x Same = record { size = λ w h. refl; square = λ w h q right bottom. square_same _ _ (omega arith) (omega arith) refl }
flip_x FlipX = record { size = λ w h. refl; square = λ w h q right bottom. square_same _ _ (omega arith) (omega arith) refl }
flip_x FlipY = record { size = λ w h. refl; square = λ w h q right bottom. square_same _ _ (omega arith) (omega arith) refl }
flip_x Half = record { size = λ w h. refl; square = λ w h q right bottom. square_same _ _ (omega arith) (omega arith) refl }
flip_x Swap = record { size = λ w h. refl; square = λ w h q right bottom. square_same _ _ (omega arith) (omega arith) refl }
flip_x SwapFlipX = record { size = λ w h. refl; square = λ w h q right bottom. square_same _ _ (omega arith) (omega arith) refl }
flip_x SwapFlipY = record { size = λ w h. refl; square = λ w h q right bottom. square_same _ _ (omega arith) (omega arith) refl }
flip_x SwapHalf = record { size = λ w h. refl; square = λ w h q right bottom. square_same _ _ (omega arith) (omega arith) refl }

flip_y : (b : Turn) → Composes FlipY b (then_flip_y b)
flip_y Same = record { size = λ w h. refl; square = λ w h q right bottom. square_same _ _ (omega arith) (omega arith) refl }
flip_y FlipX = record { size = λ w h. refl; square = λ w h q right bottom. square_same _ _ (omega arith) (omega arith) refl }
flip_y FlipY = record { size = λ w h. refl; square = λ w h q right bottom. square_same _ _ (omega arith) (omega arith) refl }
flip_y Half = record { size = λ w h. refl; square = λ w h q right bottom. square_same _ _ (omega arith) (omega arith) refl }
flip_y Swap = record { size = λ w h. refl; square = λ w h q right bottom. square_same _ _ (omega arith) (omega arith) refl }
flip_y SwapFlipX = record { size = λ w h. refl; square = λ w h q right bottom. square_same _ _ (omega arith) (omega arith) refl }
flip_y SwapFlipY = record { size = λ w h. refl; square = λ w h q right bottom. square_same _ _ (omega arith) (omega arith) refl }
flip_y SwapHalf = record { size = λ w h. refl; square = λ w h q right bottom. square_same _ _ (omega arith) (omega arith) refl }

swap : (b : Turn) → Composes Swap b (then_swap b)
swap Same = record { size = λ w h. refl; square = λ w h q right bottom. refl }
swap FlipX = record { size = λ w h. refl; square = λ w h q right bottom. refl }
swap FlipY = record { size = λ w h. refl; square = λ w h q right bottom. refl }
swap Half = record { size = λ w h. refl; square = λ w h q right bottom. refl }
swap Swap = record { size = λ w h. refl; square = λ w h q right bottom. refl }
swap SwapFlipX = record { size = λ w h. refl; square = λ w h q right bottom. refl }
swap SwapFlipY = record { size = λ w h. refl; square = λ w h q right bottom. refl }
swap SwapHalf = record { size = λ w h. refl; square = λ w h q right bottom. refl }

map_same : (squares : List Square) → map (λ q. q) squares ≡ squares
map_same [] = refl
map_same (q ∷ squares) = ap (λ (rest : List Square). q ∷ rest) (map_same squares)

-- the image by the turn that leaves all as it is
pub image-Same : (t : Tiling) → IsTiling t → image Same t ≡ t
image-Same t tiling = λ i. record { width = t.width; height = t.height; squares = squares i }
  where
    squares : in_code_order (map (image_square Same t.width t.height) t.squares) ≡ t.squares
    squares = ap in_code_order (map_same t.squares) ∙ in_code_order-same t.squares tiling.ordered

module _ (t : Tiling) (tiling : IsTiling t) (b : Turn) where
  by_flip_x : (c : Turn) → image FlipX (image c t) ≡ image (then_flip_x c) t
  by_flip_x c = composed FlipX c (then_flip_x c) (flip_x c) t tiling

  by_flip_y : (c : Turn) → image FlipY (image c t) ≡ image (then_flip_y c) t
  by_flip_y c = composed FlipY c (then_flip_y c) (flip_y c) t tiling

  by_swap : (c : Turn) → image Swap (image c t) ≡ image (then_swap c) t
  by_swap c = composed Swap c (then_swap c) (swap c) t tiling

  image_is : IsTiling (image b t)
  image_is = images_are_tilings t b tiling

  -- of two turns, the second two of the three simple ones
  half : image Half (image b t) ≡ image FlipY (image FlipX (image b t))
  half = sym (composed FlipY FlipX Half (flip_y FlipX) (image b t) image_is)

  swap_flip_x : image SwapFlipX (image b t) ≡ image FlipX (image Swap (image b t))
  swap_flip_x = sym (composed FlipX Swap SwapFlipX (flip_x Swap) (image b t) image_is)

  swap_flip_y : image SwapFlipY (image b t) ≡ image FlipY (image Swap (image b t))
  swap_flip_y = sym (composed FlipY Swap SwapFlipY (flip_y Swap) (image b t) image_is)

  swap_half : image SwapHalf (image b t) ≡ image FlipY (image SwapFlipX (image b t))
  swap_half = sym (composed FlipY SwapFlipX SwapHalf (flip_y SwapFlipX) (image b t) image_is)

  image_after : (a : Turn) → image a (image b t) ≡ image (after a b) t
  image_after Same = image-Same (image b t) image_is
  image_after FlipX = by_flip_x b
  image_after FlipY = by_flip_y b
  image_after Half = half ∙ ap (image FlipY) (by_flip_x b) ∙ by_flip_y (then_flip_x b)
  image_after Swap = by_swap b
  image_after SwapFlipX = swap_flip_x ∙ ap (image FlipX) (by_swap b) ∙ by_flip_x (then_swap b)
  image_after SwapFlipY = swap_flip_y ∙ ap (image FlipY) (by_swap b) ∙ by_flip_y (then_swap b)
  image_after SwapHalf = swap_half ∙ ap (image FlipY) (swap_flip_x ∙ ap (image FlipX) (by_swap b) ∙ by_flip_x (then_swap b))
      ∙ by_flip_y (then_flip_x (then_swap b))

-- an image of an image is the image by both turns
pub images_of_images : ImagesOfImages
images_of_images t a b tiling = image_after t tiling b a

-- a turn and the one that undoes it leave all as it is
pub undoing_undoes : (turn : Turn) → after (undoing turn) turn ≡ Same
undoing_undoes Same = refl
undoing_undoes FlipX = refl
undoing_undoes FlipY = refl
undoing_undoes Half = refl
undoing_undoes Swap = refl
undoing_undoes SwapFlipX = refl
undoing_undoes SwapFlipY = refl
undoing_undoes SwapHalf = refl

-- a tiling is an image of each of its images
pub images_are_undone : ImagesAreUndone
images_are_undone t turn tiling = images_of_images t (undoing turn) turn tiling ∙ ap (λ (a : Turn). image a t) (undoing_undoes turn) ∙ image-Same t tiling
