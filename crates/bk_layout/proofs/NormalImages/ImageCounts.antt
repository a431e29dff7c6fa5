-- What a tiling's image has at its sides, from the squares of the tiling.
use Rattle.std.proofs.Common.{Bool, List, ap, cond, count_by, length, map, refl, ℕ, ◌+◌, ◌∙◌, ◌≡◌, ◌≤◌}
use Rattle.std.proofs.lemmas.List.{length-map}
use Rattle.bk_laws.proofs.Counts.{count_by-map}
use Rattle.bk_laws.proofs.NumberTests.{eq_test-counted_back_end, eq_test-counted_back_start}
use Rattle.bk_tiling.proofs.OrderLaws.{in_code_order-count, in_code_order-length}
use Rattle.bk_tiling.proofs.TilingLaws.{within_of}
use Rattle.bk_tiling.specs.Tiling.{IsOneOf, IsTiling, Tiling}
use Rattle.bk_tiling.specs.declared.Square.{Square}
use Rattle.bk_sym.specs.Image.{image, image_square}
use Rattle.bk_sym.specs.declared.Turn.{Turn}
use Rattle.bk_sym.specs.declared.Turn.TheVariants.{FlipX, FlipY, Swap}
use Rattle.bk_dual.proofs.PointSums.{sum_same_in}
use Rattle.bk_layout.specs.Normal.{Counts, counts_of, is_at_bottom, is_at_left, is_at_right, is_at_top}

-- so many squares lie at each side
pub record HasSides (c : Counts) (top bottom left right : ℕ) : Type 0 where
  pub at_top : c.top ≡ top
  pub at_bottom : c.bottom ≡ bottom
  pub at_left : c.left ≡ left
  pub at_right : c.right ≡ right

-- tests that agree on all squares count alike
pub count_same_in : (f g : Square → Bool) (squares : List Square) → ((q : Square) → IsOneOf q squares → f q ≡ g q) → count_by f squares ≡ count_by g squares
count_same_in f g squares each = sum_same_in (λ q. cond {A = ℕ} (f q) 1 0) (λ q. cond {A = ℕ} (g q) 1 0) squares
    (λ q h. ap (λ (b : Bool). cond {A = ℕ} b 1 0) (each q h))

module _ (t : Tiling) (turn : Turn) where
  -- the squares of an image are counted by those that they come from
  pub image_count : (c : Square → Bool) → count_by c (image turn t).squares ≡ count_by (λ p. c (image_square turn t.width t.height p)) t.squares
  image_count c = in_code_order-count c (map (image_square turn t.width t.height) t.squares) ∙ count_by-map c (image_square turn t.width t.height) t.squares

  -- an image has as many squares
  pub image_order : length (image turn t).squares ≡ length t.squares
  image_order = in_code_order-length (map (image_square turn t.width t.height) t.squares) ∙ length-map t.squares (image_square turn t.width t.height)

module _ (t : Tiling) (tiling : IsTiling t) where
  -- counted by a test of the squares that agrees with the test of their images
  pub image_count_as : (turn : Turn) (c d : Square → Bool) → ((q : Square) → q.x + q.s ≤ 0 + t.width → q.y + q.s ≤ 0 + t.height
      → c (image_square turn t.width t.height q) ≡ d q) → count_by c (image turn t).squares ≡ count_by d t.squares
  image_count_as turn c d each = image_count t turn c ∙ count_same_in (λ p. c (image_square turn t.width t.height p)) d t.squares
      (λ q h. each q (within_of t tiling q h).right (within_of t tiling q h).bottom)

  -- with left and right exchanged
  pub flip_x_sides : HasSides (counts_of (image FlipX t)) (counts_of t).top (counts_of t).bottom (counts_of t).right (counts_of t).left
  flip_x_sides = record {
    at_top = image_count_as FlipX is_at_top is_at_top (λ q a b. refl);
    at_bottom = image_count_as FlipX (is_at_bottom t.height) (is_at_bottom t.height) (λ q a b. refl);
    at_left = image_count_as FlipX is_at_left (is_at_right t.width) (λ q a b. eq_test-counted_back_start t.width q.x q.s a);
    at_right = image_count_as FlipX (is_at_right t.width) is_at_left (λ q a b. eq_test-counted_back_end t.width q.x q.s a);
  }

  -- with top and bottom exchanged
  pub flip_y_sides : HasSides (counts_of (image FlipY t)) (counts_of t).bottom (counts_of t).top (counts_of t).left (counts_of t).right
  flip_y_sides = record {
    at_top = image_count_as FlipY is_at_top (is_at_bottom t.height) (λ q a b. eq_test-counted_back_start t.height q.y q.s b);
    at_bottom = image_count_as FlipY (is_at_bottom t.height) is_at_top (λ q a b. eq_test-counted_back_end t.height q.y q.s b);
    at_left = image_count_as FlipY is_at_left is_at_left (λ q a b. refl);
    at_right = image_count_as FlipY (is_at_right t.width) (is_at_right t.width) (λ q a b. refl);
  }

  -- with columns and levels exchanged
  pub swap_sides : HasSides (counts_of (image Swap t)) (counts_of t).left (counts_of t).right (counts_of t).top (counts_of t).bottom
  swap_sides = record {
    at_top = image_count_as Swap is_at_top is_at_left (λ q a b. refl);
    at_bottom = image_count_as Swap (is_at_bottom t.width) (is_at_right t.width) (λ q a b. refl);
    at_left = image_count_as Swap is_at_left is_at_top (λ q a b. refl);
    at_right = image_count_as Swap (is_at_right t.height) (is_at_bottom t.height) (λ q a b. refl);
  }
