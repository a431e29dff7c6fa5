-- At the left side and the top of a tiling no square ends, and where four squares have a corner one begins.
use Rattle.std.proofs.Common.{Bool, arith, count_by, suc, true, zero, ℕ, ◌&&◌, ◌-◌, ◌<◌, ◌≡◌}
use Rattle.std.proofs.lemmas.Bool.Decides.{nat_tests}
use Rattle.bk_laws.proofs.Truth.{and-left_true, and-right_true}
use Rattle.bk_tiling.proofs.Cells.{none_counted}
use Rattle.bk_tiling.proofs.TilingLaws.{cell_most, side_of}
use Rattle.bk_tiling.specs.Point.{is_corner}
use Rattle.bk_tiling.specs.Tiling.{IsTiling, Tiling}
use Rattle.bk_tiling.specs.declared.Square.{Square}
use Rattle.bk_dual.proofs.CornerCounts.{among, between, corners, on_bottom, on_left, on_right, on_top, over_above, over_both, over_here, over_left, top_left}

no_right : (q : Square) → 0 < q.s → on_right 0 q ≡ true → ⊥
no_right q some e = grind (arith, nat_tests)

no_between : (q : Square) → between 0 q ≡ true → ⊥
no_between q e = grind (arith, nat_tests)

no_bottom : (q : Square) → 0 < q.s → on_bottom 0 q ≡ true → ⊥
no_bottom q some e = grind (arith, nat_tests)

no_among : (q : Square) → among 0 q ≡ true → ⊥
no_among q e = grind (arith, nat_tests)

module _ (t : Tiling) (tiling : IsTiling t) (other : Square → Bool) where
  -- no right side is at column 0
  pub none_right : count_by (λ q. on_right 0 q && other q) t.squares ≡ 0
  none_right = none_counted (λ q. on_right 0 q && other q) t.squares (λ q h e. no_right q (side_of t tiling q h) (and-left_true (on_right 0 q) (other q) e))

  -- at column 0 no square has a right side or its inside
  pub none_counted_between_at_column_0 : count_by (λ q. between 0 q && other q) t.squares ≡ 0
  none_counted_between_at_column_0 = none_counted (λ q. between 0 q && other q) t.squares (λ q h e. no_between q (and-left_true (between 0 q) (other q) e))

  -- no lower side is at level 0
  pub none_bottom : count_by (λ q. other q && on_bottom 0 q) t.squares ≡ 0
  none_bottom = none_counted (λ q. other q && on_bottom 0 q) t.squares
      (λ q h e. no_bottom q (side_of t tiling q h) (and-right_true (other q) (on_bottom 0 q) e))

  -- at level 0 no square has a lower side or its inside
  pub none_among : count_by (λ q. other q && among 0 q) t.squares ≡ 0
  none_among = none_counted (λ q. other q && among 0 q) t.squares (λ q h e. no_among q (and-right_true (other q) (among 0 q) e))

-- where four squares have a corner, one has its top left corner
pub crossing_begins : (t : Tiling) → IsTiling t → (x y : ℕ) → count_by (is_corner x y) t.squares ≡ 4 → count_by (top_left x y) t.squares ≡ 1
crossing_begins t tiling zero zero four = omega (
  arith,
  four,
  corners t tiling 0 0,
  over_here t tiling 0 0,
  cell_most t tiling 0 0,
  none_right t tiling (on_top 0),
  none_right t tiling (on_bottom 0),
  none_bottom t tiling (on_left 0),
)
crossing_begins t tiling zero (suc y) four = omega (
  arith,
  four,
  corners t tiling 0 (suc y),
  over_here t tiling 0 (suc y),
  over_above t tiling 0 (suc y) (omega arith),
  cell_most t tiling 0 (suc y),
  cell_most t tiling 0 (suc y - 1),
  none_right t tiling (on_top (suc y)),
  none_right t tiling (on_bottom (suc y)),
)
crossing_begins t tiling (suc x) zero four = omega (
  arith,
  four,
  corners t tiling (suc x) 0,
  over_here t tiling (suc x) 0,
  over_left t tiling (suc x) 0 (omega arith),
  cell_most t tiling (suc x) 0,
  cell_most t tiling (suc x - 1) 0,
  none_bottom t tiling (on_left (suc x)),
  none_bottom t tiling (on_right (suc x)),
)
crossing_begins t tiling (suc x) (suc y) four = omega (
  arith,
  four,
  corners t tiling (suc x) (suc y),
  over_here t tiling (suc x) (suc y),
  over_left t tiling (suc x) (suc y) (omega arith),
  over_above t tiling (suc x) (suc y) (omega arith),
  over_both t tiling (suc x) (suc y) (omega arith) (omega arith),
  cell_most t tiling (suc x) (suc y),
  cell_most t tiling (suc x - 1) (suc y),
  cell_most t tiling (suc x) (suc y - 1),
  cell_most t tiling (suc x - 1) (suc y - 1),
)
