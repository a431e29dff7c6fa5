-- The squares at the corners of a part: where they are found, and that they determine the rectangle.
use Rattle.std.specs.Prelude.{get_or, length, true, ℕ, ◌&&◌, ◌+◌, ◌-◌, ◌<◌, ◌==◌, ◌≡◌}
use Rattle.std.proofs.Common.{arith, sym}
use Rattle.std.proofs.lemmas.Bool.{false_from_ne_true}
use Rattle.std.proofs.lemmas.List.Sums.{position_or_len_is}
use Rattle.bk_laws.proofs.NumberTests.{both_equal-from_test, both_equal-to_test}
use Rattle.bk_tiling.proofs.Cells.{covers_from}
use Rattle.bk_tiling.specs.Tiling.{IsTiling, IsWithin, Rectangle, Tiling, covers, whole}
use Rattle.bk_tiling.specs.declared.Square.{Square}
use Rattle.bk_simple.specs.Simple.{bottom_right, top_left}
use Rattle.bk_simple.specs.CornerSquares.{IsBetween}
use Rattle.bk_simple.proofs.UncutParts.{no_two_squares_over_a_cell, square_at_a_place_has_a_side, within_at}

-- a square covers the cells at its corners
pub covers_first : (q : Square) (x y : ℕ) → 0 < q.s → x ≡ q.x → y ≡ q.y → covers x y q ≡ true
covers_first q x y some ex ey = covers_from x y q (omega arith) (omega arith) (omega arith) (omega arith)

covers_last : (q : Square) (x y : ℕ) → 0 < q.s → x ≡ q.x + q.s → y ≡ q.y + q.s → covers (x - 1) (y - 1) q ≡ true
covers_last q x y some ex ey = covers_from (x - 1) (y - 1) q (omega arith) (omega arith) (omega arith) (omega arith)

-- two corners determine the rectangle
pub between-one : (p q : Square) (r s : Rectangle) → IsBetween p q r → IsBetween p q s → r ≡ s
between-one p q r s a b = λ i. record { x = x i; y = y i; width = width i; height = height i }
  where
    x : r.x ≡ s.x
    x = omega (arith, a.left, b.left)

    y : r.y ≡ s.y
    y = omega (arith, a.top, b.top)

    width : r.width ≡ s.width
    width = omega (arith, a.left, b.left, a.right, b.right)

    height : r.height ≡ s.height
    height = omega (arith, a.top, b.top, a.bottom, b.bottom)

module _ (t : Tiling) (tiling : IsTiling t) where
  -- the first square at a corner is the one of the pair
  pub top_left_at : (i : ℕ) (d q : Square) (r : Rectangle) → i < length t.squares → IsBetween (get_or t.squares i d) q r → top_left t r ≡ i
  top_left_at i d q r few h =
      position_or_len_is (λ q. (q.x == r.x) && (q.y == r.y)) t.squares i d (omega arith) (λ k below. false_from_ne_true _ (λ e. earlier k below e))
      (λ _. both_equal-to_test (get_or t.squares i d).x r.x (get_or t.squares i d).y r.y (sym h.left) (sym h.top))
    where
      here : IsWithin (whole t) (get_or t.squares i d)
      here = within_at t tiling i d few

      also : 0 < (get_or t.squares i d).s
      also = square_at_a_place_has_a_side t tiling i d few

      earlier : (k : ℕ) → k < i → ((get_or t.squares k d).x == r.x) && ((get_or t.squares k d).y == r.y) ≡ true → ⊥
      earlier k below e =
          let same = both_equal-from_test (get_or t.squares k d).x r.x (get_or t.squares k d).y r.y e in
          no_two_squares_over_a_cell t tiling r.x r.y k i d (omega (arith, here.right, h.left, also)) (omega (arith, here.bottom, h.top, also)) below few
          (covers_first (get_or t.squares k d) r.x r.y (square_at_a_place_has_a_side t tiling k d (omega arith)) (sym same.0) (sym same.1))
          (covers_first (get_or t.squares i d) r.x r.y also h.left h.top)

  -- the square at whose bottom right corner a rectangle ends is the one at its bottom right
  pub bottom_right_at : (j : ℕ) (d p : Square) (r : Rectangle) → j < length t.squares → IsBetween p (get_or t.squares j d) r → bottom_right t r ≡ j
  bottom_right_at j d p r few h =
      position_or_len_is (λ q. (q.x + q.s == r.x + r.width) && (q.y + q.s == r.y + r.height)) t.squares j d (omega arith)
      (λ k below. false_from_ne_true _ (λ e. earlier k below e))
      (λ _. both_equal-to_test ((get_or t.squares j d).x + (get_or t.squares j d).s) (r.x + r.width) ((get_or t.squares j d).y + (get_or t.squares j d).s)
      (r.y + r.height) (sym h.right) (sym h.bottom))
    where
      here : IsWithin (whole t) (get_or t.squares j d)
      here = within_at t tiling j d few

      also : 0 < (get_or t.squares j d).s
      also = square_at_a_place_has_a_side t tiling j d few

      earlier : (k : ℕ) → k < j
          → ((get_or t.squares k d).x + (get_or t.squares k d).s == r.x + r.width) && ((get_or t.squares k d).y + (get_or t.squares k
          d).s == r.y + r.height) ≡ true → ⊥
      earlier k below e =
          let same =
          both_equal-from_test ((get_or t.squares k d).x + (get_or t.squares k d).s) (r.x + r.width) ((get_or t.squares k d).y + (get_or t.squares k d).s)
          (r.y + r.height) e in
          no_two_squares_over_a_cell t tiling (r.x + r.width - 1) (r.y + r.height - 1) k j d (omega (arith, here.right, h.right, also))
          (omega (arith, here.bottom, h.bottom, also)) below few
          (covers_last (get_or t.squares k d) (r.x + r.width) (r.y + r.height) (square_at_a_place_has_a_side t tiling k d (omega arith)) (sym same.0)
          (sym same.1))
          (covers_last (get_or t.squares j d) (r.x + r.width) (r.y + r.height) also h.right h.bottom)
