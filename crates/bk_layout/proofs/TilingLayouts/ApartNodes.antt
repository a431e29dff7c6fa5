-- Lines of squares above and below one node of a tiling are apart.
use Rattle.std.proofs.Common.{ap, arith, inl, inr, length, refl, slice_index_or, suc, sym, ℕ, ◌+◌, ◌-◌, ◌<◌, ◌∙◌, ◌≡◌, ◌≤◌, ◌⊎◌}
use Rattle.std.proofs.lemmas.Bool.{cases_lt}
use Rattle.bk_tiling.specs.SquareGroups.{square_groups}
use Rattle.bk_tiling.specs.Tiling.{IsOneOf, IsTiling, Tiling, square_of}
use Rattle.bk_tiling.specs.declared.Square.{Square}
use Rattle.bk_net.specs.Diagram.{node_below, node_levels}
use Rattle.bk_layout.proofs.TilingLayouts.Edges.{MeetsLeft, MeetsRight, bottom_within, left_of, meet, right_of, right_within, side}
use Rattle.bk_layout.proofs.TilingLayouts.LineEnds.{Ends, none_before, not_passed}
use Rattle.bk_layout.proofs.TilingLayouts.LineNumbers.{number_both, number_column}
use Rattle.bk_layout.proofs.TilingLayouts.TilingSquares.{in_square}
use Rattle.bk_layout.proofs.TilingLayouts.NodesFit.{levels_of}
use Rattle.bk_layout.specs.TilingLayout.{layout_of, line_end, line_number, node_above}

module _ (t : Tiling) (tiling : IsTiling t) where
  -- the square of a number is one of the tiling
  pub is_in : (x : ℕ) → x < length t.squares → IsOneOf (square_of t x) t.squares
  is_in x h = in_square t tiling x h

  -- the square of a number begins within the height
  pub low : (x : ℕ) → x < length t.squares → (square_of t x).y ≤ t.height
  low x h = omega (arith, bottom_within t tiling (square_of t x) (is_in x h))

  -- a square of the tiling has a side
  pub some : (x : ℕ) → x < length t.squares → 0 < (square_of t x).s
  some x h = side t tiling (square_of t x) (is_in x h)

  -- x ends on the node from which y hangs
  level : (v x y : ℕ) → x < length t.squares → y < length t.squares → node_below (square_groups t.squares) (square_of t x) ≡ v
      → node_above (square_groups t.squares) (square_of t y) ≡ v
      → (square_of t x).y + (square_of t x).s ≡ (square_of t y).y
  level v x y h k e f = omega (
    arith,
    (levels_of t tiling (square_of t x) (is_in x h)).1,
    (levels_of t tiling (square_of t y) (is_in y k)).0,
    ap (λ (n : ℕ). slice_index_or (node_levels t) n 0) (e ∙ sym f),
  )

  -- where a line ends at a level, none of its column that comes from above goes on
  never : (c a b l : ℕ) → 0 < c → c < t.width → a < l → l ≤ b → b < t.height → Ends t.squares c l → line_number t c a ≡ line_number t c b → ⊥
  never c a b l some wide up down deep ends same = none_before t.squares c (t.height - a) a l up (omega (arith, both, below)) ends
    where
      both : line_end t.squares c (t.height - a) a ≡ line_end t.squares c (t.height - b) b
      both = (number_both t c a c b some wide (omega arith) (omega arith) same).1

      below : b < line_end t.squares c (t.height - b) b
      below = omega (arith, not_passed t.squares c (t.height - b) b (suc b) (omega (arith, deep)) (λ d lo hi e. omega (arith, lo, hi)))

  -- the line at the left of a square that ends on a node isn't that at the right of one that hangs from it
  pub apart_left : (v x y : ℕ) → x < length t.squares → y < length t.squares → node_below (square_groups t.squares) (square_of t x) ≡ v
      → node_above (square_groups t.squares) (square_of t y) ≡ v
      → (layout_of t).left x ≡ (layout_of t).right y → ⊥
  apart_left v x y h k e f same = from (left_of t tiling (square_of t x) ((square_of t x).y + (square_of t x).s - 1) (is_in x h)
      (omega (arith, some x h)) (omega (arith, some x h)) (omega (arith, column, some y k)))
    where
      column : (square_of t x).x ≡ (square_of t y).x + (square_of t y).s
      column = number_column t (square_of t x).x (square_of t x).y ((square_of t y).x + (square_of t y).s) (square_of t y).y (low x h) (low y k) same

      at : (square_of t x).y + (square_of t x).s ≡ (square_of t y).y
      at = level v x y h k e f

      from : MeetsLeft t tiling (square_of t x) ((square_of t x).y + (square_of t x).s - 1) → ⊥
      from z = never (square_of t x).x (square_of t x).y (square_of t y).y ((square_of t x).y + (square_of t x).s)
          (omega (arith, column, some y k)) (omega (arith, some x h, right_within t tiling (square_of t x) (is_in x h)))
          (omega (arith, some x h)) (omega (arith, at)) (omega (arith, some y k, bottom_within t tiling (square_of t y) (is_in y k)))
          (record {
            left = z.square;
            right = square_of t x;
            left_in = z.is;
            right_in = is_in x h;
            left_edge = z.has;
            right_edge = refl;
            left_bottom = bottom (cases_lt ((square_of t x).y + (square_of t x).s) (z.square.y + z.square.s));
            right_bottom = refl;
          })
          (same ∙ ap (λ (c : ℕ). line_number t c (square_of t y).y) (sym column))
        where
          bottom : ((square_of t x).y + (square_of t x).s < z.square.y + z.square.s)
              ⊎ (z.square.y + z.square.s ≤ (square_of t x).y + (square_of t x).s) → z.square.y + z.square.s ≡ (square_of t x).y + (square_of t x).s
          bottom (inr m) = omega (arith, m, z.on.bottom, some x h)
          bottom (inl m) = let one : z.square ≡ square_of t y =
              meet t tiling ((square_of t x).x - 1) (square_of t y).y z.square (square_of t y) z.is (is_in y k)
              (record {
                left = omega (arith, z.has, column, some y k, side t tiling z.square z.is);
                right =
                    omega (arith, z.has, column, some y k);
                top = omega (arith, z.on.top, at, some x h);
                bottom = omega (arith, m, at);
              })
              (record {
                left = omega (arith, column, some y k);
                right = omega (arith, column, some y k);
                top = omega arith;
                bottom =
                    omega (arith, some y k);
              }) in
              absurd (omega (arith, z.on.top, at, some x h, ap (λ (s : Square). s.y) one))

  -- the line at the right of a square that ends on a node isn't that at the left of one that hangs from it
  pub apart_right : (v x y : ℕ) → x < length t.squares → y < length t.squares → node_below (square_groups t.squares) (square_of t x) ≡ v
      → node_above (square_groups t.squares) (square_of t y) ≡ v
      → (layout_of t).right x ≡ (layout_of t).left y → ⊥
  apart_right v x y h k e f same = from (right_of t tiling (square_of t x) ((square_of t x).y + (square_of t x).s - 1) (is_in x h)
      (omega (arith, some x h)) (omega (arith, some x h)) (omega (arith, column, some y k, right_within t tiling (square_of t y) (is_in y k))))
    where
      column : (square_of t x).x + (square_of t x).s ≡ (square_of t y).x
      column = number_column t ((square_of t x).x + (square_of t x).s) (square_of t x).y (square_of t y).x (square_of t y).y (low x h) (low y k) same

      at : (square_of t x).y + (square_of t x).s ≡ (square_of t y).y
      at = level v x y h k e f

      from : MeetsRight t tiling (square_of t x) ((square_of t x).y + (square_of t x).s - 1) → ⊥
      from z = never ((square_of t x).x + (square_of t x).s) (square_of t x).y (square_of t y).y ((square_of t x).y + (square_of t x).s)
          (omega (arith, some x h)) (omega (arith, column, some y k, right_within t tiling (square_of t y) (is_in y k)))
          (omega (arith, some x h)) (omega (arith, at)) (omega (arith, some y k, bottom_within t tiling (square_of t y) (is_in y k)))
          (record {
            left = square_of t x;
            right = z.square;
            left_in = is_in x h;
            right_in = z.is;
            left_edge = refl;
            right_edge = z.has;
            left_bottom = refl;
            right_bottom = bottom (cases_lt ((square_of t x).y + (square_of t x).s) (z.square.y + z.square.s));
          })
          (same ∙ ap (λ (c : ℕ). line_number t c (square_of t y).y) (sym column))
        where
          bottom : ((square_of t x).y + (square_of t x).s < z.square.y + z.square.s)
              ⊎ (z.square.y + z.square.s ≤ (square_of t x).y + (square_of t x).s) → z.square.y + z.square.s ≡ (square_of t x).y + (square_of t x).s
          bottom (inr m) = omega (arith, m, z.on.bottom, some x h)
          bottom (inl m) = let one : z.square ≡ square_of t y = meet t tiling (square_of t y).x (square_of t y).y z.square (square_of t y) z.is (is_in y k)
              (record {
                left = omega (arith, z.has, column);
                right = omega (arith, z.has, column, side t tiling z.square z.is);
                top =
                    omega (arith, z.on.top, at, some x h);
                bottom = omega (arith, m, at);
              })
              (record { left = omega arith; right = omega (arith, some y k); top = omega arith; bottom = omega (arith, some y k) }) in
              absurd (omega (arith, z.on.top, at, some x h, ap (λ (s : Square). s.y) one))
