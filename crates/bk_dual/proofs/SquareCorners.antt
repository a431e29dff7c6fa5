-- How many corners lie at the top left corner of a square, and that there are four exactly at a crossing.
use Rattle.std.proofs.Common.{arith, cond, count_by, suc, true, zero, ℕ, ◌&&◌, ◌+◌, ◌-◌, ◌<◌, ◌==◌, ◌≡◌, ◌≤◌}
use Rattle.std.proofs.lemmas.Bool.Decides.{nat_tests}
use Rattle.bk_laws.proofs.TestsAsNumbers.{cond_count-four, cond_count-not_four, cond_count-not_origin}
use Rattle.bk_tiling.proofs.Cells.{one_counted}
use Rattle.bk_tiling.proofs.TilingLaws.{cell_most, cell_once, side_of, within_of}
use Rattle.bk_tiling.specs.Point.{is_corner}
use Rattle.bk_tiling.specs.Tiling.{IsOneOf, IsTiling, Tiling, covers}
use Rattle.bk_tiling.specs.declared.Square.{Square}
use Rattle.bk_dual.specs.Dual.{is_crossing}
use Rattle.bk_dual.proofs.CornerCounts.{among, between, bottom_left, bottom_right, corners, on_bottom, on_left, on_right, on_top, over_above, over_both}
use Rattle.bk_dual.proofs.CornerCounts.{over_here, over_left, top_left, top_right}
use Rattle.bk_dual.proofs.CrossingBegins.{none_among, none_bottom, none_counted_between_at_column_0, none_right}

-- at the top left corner of a square another has its top right corner or another its bottom left corner, and both
-- exactly at a crossing; at the corner of the tiling none has
at_corner : (t : Tiling) → IsTiling t → (x y : ℕ) → x < t.width → y < t.height → 0 < count_by (top_left x y) t.squares
    → count_by (top_right x y) t.squares + count_by (bottom_left x y) t.squares + cond {A = ℕ} ((x == 0) && (y == 0)) 1 0 ≡ 1 + cond {A = ℕ}
    (is_crossing t x y) 1 0
at_corner t tiling zero zero wide low some = omega (
  arith,
  some,
  cond_count-not_four (count_by (is_corner 0 0) t.squares)
      (λ e. omega (
        arith,
        e,
        corners t tiling 0 0,
        over_here t tiling 0 0,
        cell_most t tiling 0 0,
        none_right t tiling (on_top 0),
        none_right t tiling
            (on_bottom 0),
        none_bottom t tiling (on_left 0),
      )),
  none_right t tiling (on_top 0),
  none_bottom t tiling (on_left 0),
)
at_corner t tiling zero (suc y) wide low some = omega (
  arith,
  cond_count-not_origin 0 (suc y) (omega arith),
  left,
  none_right t tiling (on_top (suc y)),
  cond_count-not_four (count_by (is_corner 0 (suc y)) t.squares)
      (λ e. omega (
        arith,
        e,
        corners t tiling 0 (suc y),
        over_here t tiling 0 (suc y),
        cell_most t tiling 0 (suc y),
        left,
        none_right t tiling
            (on_top (suc y)),
        none_right t tiling (on_bottom (suc y)),
      )),
)
  where
    left : count_by (bottom_left 0 (suc y)) t.squares ≡ 1
    left = omega (
      arith,
      some,
      over_here t tiling 0 (suc y),
      over_above t tiling 0 (suc y) (omega arith),
      cell_once t tiling 0 (suc y) wide low,
      cell_once t tiling 0 (suc y - 1) wide (omega arith),
      none_counted_between_at_column_0 t tiling (on_bottom (suc y)),
      none_counted_between_at_column_0 t tiling (among (suc y)),
    )
at_corner t tiling (suc x) zero wide low some = omega (
  arith,
  cond_count-not_origin (suc x) 0 (omega arith),
  above,
  none_bottom t tiling (on_left (suc x)),
  cond_count-not_four (count_by (is_corner (suc x) 0) t.squares)
      (λ e. omega (
        arith,
        e,
        corners t tiling (suc x) 0,
        over_here t tiling (suc x) 0,
        cell_most t tiling (suc x) 0,
        above,
        none_bottom t tiling
            (on_left (suc x)),
        none_bottom t tiling (on_right (suc x)),
      )),
)
  where
    above : count_by (top_right (suc x) 0) t.squares ≡ 1
    above = omega (
      arith,
      some,
      over_here t tiling (suc x) 0,
      over_left t tiling (suc x) 0 (omega arith),
      cell_once t tiling (suc x) 0 wide low,
      cell_once t tiling (suc x - 1) 0 (omega arith) low,
      none_among t tiling (on_right (suc x)),
      none_among t tiling (between (suc x)),
    )
at_corner t tiling (suc x) (suc y) wide low some = omega (
  arith,
  cond_count-not_origin (suc x) (suc y) (omega arith),
  meet,
  cond_count-four (count_by (is_corner (suc x) (suc y)) t.squares)
      (count_by (bottom_right (suc x) (suc y)) t.squares) many few,
)
  where
    here_one : count_by (covers (suc x) (suc y)) t.squares ≡ 1
    here_one = cell_once t tiling (suc x) (suc y) wide low

    left_one : count_by (covers (suc x - 1) (suc y)) t.squares ≡ 1
    left_one = cell_once t tiling (suc x - 1) (suc y) (omega arith) low

    above_one : count_by (covers (suc x) (suc y - 1)) t.squares ≡ 1
    above_one = cell_once t tiling (suc x) (suc y - 1) wide (omega arith)

    both_one : count_by (covers (suc x - 1) (suc y - 1)) t.squares ≡ 1
    both_one = cell_once t tiling (suc x - 1) (suc y - 1) (omega arith) (omega arith)

    few : count_by (bottom_right (suc x) (suc y)) t.squares ≤ 1
    few = omega (arith, both_one, over_both t tiling (suc x) (suc y) (omega arith) (omega arith))

    meet : count_by (top_right (suc x) (suc y)) t.squares + count_by (bottom_left (suc x) (suc y)) t.squares ≡ 1 + count_by (bottom_right (suc x) (suc y))
        t.squares
    meet = omega (
      arith,
      some,
      here_one,
      left_one,
      above_one,
      both_one,
      over_here t tiling (suc x) (suc y),
      over_left t tiling (suc x) (suc y) (omega arith),
      over_above t tiling (suc x) (suc y) (omega arith),
      over_both t tiling (suc x) (suc y) (omega arith) (omega arith),
    )

    many : count_by (is_corner (suc x) (suc y)) t.squares ≡ 2 + count_by (bottom_right (suc x) (suc y)) t.squares + count_by (bottom_right (suc x) (suc y))
        t.squares
    many = omega (arith, some, here_one, over_here t tiling (suc x) (suc y), meet, corners t tiling (suc x) (suc y))

-- a square has its top left corner at its own place
pub own_corner : (q : Square) → top_left q.x q.y q ≡ true
own_corner q = grind (arith, nat_tests)

-- at the top left corner of a square one other corner lies at its left or above, or the tiling's own corner, and one more at a
-- crossing
pub at_square : (t : Tiling) → IsTiling t → (q : Square) → IsOneOf q t.squares
    → count_by (top_right q.x q.y) t.squares + count_by (bottom_left q.x q.y) t.squares + cond {A = ℕ} ((q.x == 0) && (q.y == 0)) 1 0 ≡ 1 + cond {A = ℕ}
    (is_crossing t q.x q.y) 1 0
at_square t tiling q h =
    let w = within_of t tiling q h in let a = w.right in let b = w.bottom in let s = side_of t tiling q h in
    at_corner t tiling q.x q.y (omega arith) (omega arith) (one_counted (top_left q.x q.y) t.squares q h (own_corner q))
