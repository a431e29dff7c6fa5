-- The longest squares in the corners of a tiling's image.
use Rattle.std.proofs.Common.{Bool, List, [], ap, cond, false, inl, inr, map, max, refl, true, ◌&&◌, ◌+◌, ◌||◌, ◌∙◌, ◌∷◌, ◌≡◌, ◌≤◌}
use Rattle.std.proofs.Math.Bool.{or_comm}
use Rattle.bk_laws.proofs.NumberOrder.{max-left_comm}
use Rattle.bk_laws.proofs.NumberTests.{eq_test-counted_back_end, eq_test-counted_back_start}
use Rattle.bk_tiling.proofs.TilingLaws.{within_of}
use Rattle.bk_tiling.specs.CodeOrder.{comes_before, in_code_order, with_square}
use Rattle.bk_tiling.specs.Tiling.{IsOneOf, IsTiling, Tiling}
use Rattle.bk_tiling.specs.declared.Square.{Square}
use Rattle.bk_sym.specs.Image.{image, image_square}
use Rattle.bk_sym.specs.declared.Turn.{Turn}
use Rattle.bk_sym.specs.declared.Turn.TheVariants.{FlipX, FlipY}
use Rattle.bk_layout.specs.Normal.{is_at_bottom, is_at_left, is_at_right, is_at_top, is_in_bottom_corner, is_in_left_corner, is_in_right_corner}
use Rattle.bk_layout.specs.Normal.{is_in_top_corner, longest}

-- ---- the longest of squares

longest_with : (p : Square → Bool) (q : Square) (squares : List Square) → longest p (with_square q squares) ≡ longest p (q ∷ squares)
longest_with p q [] = refl
longest_with p q (r ∷ squares) = cases (comes_before q r) (longest_with p q squares)
  where
    cases : (b : Bool) → longest p (with_square q squares) ≡ longest p (q ∷ squares)
        → longest p (cond b (q ∷ r ∷ squares) (r ∷ with_square q squares)) ≡ longest p (q ∷ r ∷ squares)
    cases true e = refl
    cases false e = ap (max (cond (p r) r.s 0)) e ∙ max-left_comm (cond (p r) r.s 0) (cond (p q) q.s 0) (longest p squares)

-- putting squares in order keeps it
pub longest_ordered : (p : Square → Bool) (squares : List Square) → longest p (in_code_order squares) ≡ longest p squares
longest_ordered p [] = refl
longest_ordered p (q ∷ squares) = longest_with p q (in_code_order squares) ∙ ap (max (cond (p q) q.s 0)) (longest_ordered p squares)

-- moving squares keeps the longest that a test passes, where another test passes the moved ones
longest_moved : (p d : Square → Bool) (f : Square → Square) (squares : List Square) → ((q : Square) → IsOneOf q squares → p (f q) ≡ d q)
    → ((q : Square) → (f q).s ≡ q.s) → longest p (map f squares) ≡ longest d squares
longest_moved p d f [] each side = refl
longest_moved p d f (q ∷ squares) each side = λ i.
    max (cond (each q (inl refl) i) (side q i) 0) (longest_moved p d f squares (λ r h. each r (inr h)) side i)

module _ (t : Tiling) (tiling : IsTiling t) where
  longest_image : (turn : Turn) (c d : Square → Bool) → ((q : Square) → (image_square turn t.width t.height q).s ≡ q.s)
      → ((q : Square) → q.x + q.s ≤ 0 + t.width → q.y + q.s ≤ 0 + t.height → c (image_square turn t.width t.height q) ≡ d q)
      → longest c (image turn t).squares ≡ longest d t.squares
  longest_image turn c d side each = longest_ordered c (map (image_square turn t.width t.height) t.squares)
      ∙ longest_moved c d (image_square turn t.width t.height) t.squares
      (λ q h. each q (within_of t tiling q h).right (within_of t tiling q h).bottom) side

  -- two sides that a turn exchanges, each with what it keeps at both of them
  exchanged : (turn : Turn) (c d ends : Square → Bool) → ((q : Square) → (image_square turn t.width t.height q).s ≡ q.s)
      → ((q : Square) → ends (image_square turn t.width t.height q) ≡ ends q)
      → ((q : Square) → q.x + q.s ≤ 0 + t.width → q.y + q.s ≤ 0 + t.height → c (image_square turn t.width t.height q) ≡ d q)
      → ((q : Square) → q.x + q.s ≤ 0 + t.width → q.y + q.s ≤ 0 + t.height → d (image_square turn t.width t.height q) ≡ c q)
      → (longest (λ q. c q && ends q) (image turn t).squares ≡ longest (λ q. d q && ends q) t.squares)
      × (longest (λ q. d q && ends q) (image turn t).squares ≡ longest (λ q. c q && ends q) t.squares)
  exchanged turn c d ends side keeps to back = (
    longest_image turn (λ q. c q && ends q) (λ q. d q && ends q) side (λ q a b i. to q a b i && keeps q i),
    longest_image turn (λ q. d q && ends q) (λ q. c q && ends q) side (λ q a b i. back q a b i && keeps q i),
  )

  -- the walls, mirrored
  mirrored_walls : (q : Square) → q.x + q.s ≤ 0 + t.width
      → (is_at_left (image_square FlipX t.width t.height q) || is_at_right t.width (image_square FlipX t.width t.height q))
      ≡ (is_at_left q || is_at_right t.width q)
  mirrored_walls q a =
      (λ i. eq_test-counted_back_start t.width q.x q.s a i || eq_test-counted_back_end t.width q.x q.s a i) ∙ or_comm (is_at_right t.width q) (is_at_left q)

  -- ---- left and right exchanged

  -- the longest in a corner at the top is the same
  pub corner_x_top : longest (is_in_top_corner t.width) (image FlipX t).squares ≡ longest (is_in_top_corner t.width) t.squares
  corner_x_top = longest_image FlipX (is_in_top_corner t.width) (is_in_top_corner t.width) (λ q. refl)
      (λ q a b. ap (λ (c : Bool). is_at_top q && c) (mirrored_walls q a))

  -- the longest in a corner at the bottom stays when the image is flipped along x
  pub corner_x_bottom : longest (is_in_bottom_corner t.width t.height) (image FlipX t).squares ≡ longest (is_in_bottom_corner t.width t.height) t.squares
  corner_x_bottom = longest_image FlipX (is_in_bottom_corner t.width t.height) (is_in_bottom_corner t.width t.height) (λ q. refl)
      (λ q a b. ap (λ (c : Bool). is_at_bottom t.height q && c) (mirrored_walls q a))

  -- of a tiling with left and right exchanged, the longest side in the corners at either is that of the tiling at the other
  pub corners_x : (longest (is_in_left_corner t.height) (image FlipX t).squares ≡ longest (is_in_right_corner t.width t.height) t.squares)
      × (longest (is_in_right_corner t.width t.height) (image FlipX t).squares ≡ longest (is_in_left_corner t.height) t.squares)
  corners_x = exchanged FlipX is_at_left (is_at_right t.width) (λ q. is_at_top q || is_at_bottom t.height q) (λ q. refl) (λ q. refl)
      (λ q a b. eq_test-counted_back_start t.width q.x q.s a) (λ q a b. eq_test-counted_back_end t.width q.x q.s a)

  -- of a tiling with top and bottom exchanged, the longest side in the corners at either is that of the tiling at the other
  pub corners_y : (longest (is_in_top_corner t.width) (image FlipY t).squares ≡ longest (is_in_bottom_corner t.width t.height) t.squares)
      × (longest (is_in_bottom_corner t.width t.height) (image FlipY t).squares ≡ longest (is_in_top_corner t.width) t.squares)
  corners_y = exchanged FlipY is_at_top (is_at_bottom t.height) (λ q. is_at_left q || is_at_right t.width q) (λ q. refl) (λ q. refl)
      (λ q a b. eq_test-counted_back_start t.height q.y q.s b) (λ q a b. eq_test-counted_back_end t.height q.y q.s b)
