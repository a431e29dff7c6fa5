-- How the squares of a tiling meet at a point: by their corners, by their sides, or by their inside.
use Rattle.std.proofs.Common.{Bool, List, [], arith, cond, count_by, inl, inr, nat_le, nat_lt, refl, ℕ, ◌&&◌, ◌+◌, ◌-◌, ◌<◌, ◌==◌, ◌∷◌, ◌≡◌}
use Rattle.std.proofs.lemmas.Bool.Decides.{nat_tests}
use Rattle.bk_laws.proofs.TestsAsNumbers.{cond_count-and_of_sums, cond_count-range_from, cond_count-range_to}
use Rattle.bk_tiling.proofs.Cells.{count-cons}
use Rattle.bk_tiling.proofs.TilingLaws.{side_of}
use Rattle.bk_tiling.specs.Point.{is_at_edge, is_at_side, is_corner}
use Rattle.bk_tiling.specs.Tiling.{IsOneOf, IsTiling, Tiling, covers}
use Rattle.bk_tiling.specs.declared.Square.{Square}

-- the column is that of the left side, of the right side, or between them
abbrev pub on_left : ℕ → Square → Bool
on_left x q = x == q.x

-- the column is that of the right side
abbrev pub on_right : ℕ → Square → Bool
on_right x q = x == q.x + q.s

-- the column lies between the sides
abbrev pub between : ℕ → Square → Bool
between x q = nat_lt q.x x && nat_lt x (q.x + q.s)

-- the level is that of the upper side, of the lower side, or between them
abbrev pub on_top : ℕ → Square → Bool
on_top y q = y == q.y

-- the level is that of the lower side
abbrev pub on_bottom : ℕ → Square → Bool
on_bottom y q = y == q.y + q.s

-- the level lies between the upper and the lower side
abbrev pub among : ℕ → Square → Bool
among y q = nat_lt q.y y && nat_lt y (q.y + q.s)

left_or_right : (x : ℕ) (q : Square) → 0 < q.s → ◌≡◌ {A = ℕ} (cond (is_at_side q x) 1 0) (cond (on_left x q) 1 0 + cond (on_right x q) 1 0)
left_or_right x q some = grind (arith, nat_tests)

top_or_bottom : (y : ℕ) (q : Square) → 0 < q.s → ◌≡◌ {A = ℕ} (cond (is_at_edge q y) 1 0) (cond (on_top y q) 1 0 + cond (on_bottom y q) 1 0)
top_or_bottom y q some = grind (arith, nat_tests)

-- a count in four cases
count_four : (p a b c d : Square → Bool) (squares : List Square)
    → ((q : Square) → IsOneOf q squares → ◌≡◌ {A = ℕ} (cond (p q) 1 0) (cond (a q) 1 0 + cond (b q) 1 0 + cond (c q) 1 0 + cond (d q) 1 0))
    → count_by p squares ≡ count_by a squares + count_by b squares + count_by c squares + count_by d squares
count_four p a b c d [] each = refl
count_four p a b c d (q ∷ squares) each = omega (
  arith,
  count-cons p q squares,
  count-cons a q squares,
  count-cons b q squares,
  count-cons c q squares,
  count-cons d q squares,
  each q (inl refl),
  count_four p a b c d squares (λ r h. each r (inr h)),
)

-- how many squares have each corner at a point
abbrev pub top_left : ℕ → ℕ → Square → Bool
top_left x y q = on_left x q && on_top y q

-- the point is the top right corner
abbrev pub top_right : ℕ → ℕ → Square → Bool
top_right x y q = on_right x q && on_top y q

-- the point is the bottom left corner
abbrev pub bottom_left : ℕ → ℕ → Square → Bool
bottom_left x y q = on_left x q && on_bottom y q

-- the point is the bottom right corner
abbrev pub bottom_right : ℕ → ℕ → Square → Bool
bottom_right x y q = on_right x q && on_bottom y q

module _ (t : Tiling) (tiling : IsTiling t) (x y : ℕ) where
  -- a square that has a corner at the point has one of its four corners there
  pub corners : count_by (is_corner x y) t.squares
      ≡ count_by (top_left x y) t.squares + count_by (bottom_left x y) t.squares + count_by (top_right x y) t.squares + count_by (bottom_right x y) t.squares
  corners = count_four (is_corner x y) (top_left x y) (bottom_left x y) (top_right x y) (bottom_right x y) t.squares
      (λ q h. cond_count-and_of_sums (is_at_side q x) (on_left x q) (on_right x q) (is_at_edge q y) (on_top y q) (on_bottom y q)
      (left_or_right x q (side_of t tiling q h))
      (top_or_bottom y q (side_of t tiling q h)))

  -- the squares over the four cells at the point
  pub over_here : count_by (covers x y) t.squares
      ≡ count_by (top_left x y) t.squares + count_by (λ q. on_left x q && among y q) t.squares + count_by (λ q. between x q && on_top y q) t.squares +
      count_by (λ q. between x q && among y q) t.squares
  over_here = count_four (covers x y) (top_left x y) (λ q. on_left x q && among y q) (λ q. between x q && on_top y q) (λ q. between x q && among y q) t.squares
      (λ q h. cond_count-and_of_sums (nat_le q.x x && nat_lt x (q.x + q.s)) (on_left x q) (between x q) (nat_le q.y y && nat_lt y (q.y + q.s)) (on_top y q)
      (among y q)
      (cond_count-range_from q.x q.s x (side_of t tiling q h)) (cond_count-range_from q.y q.s y (side_of t tiling q h)))

  -- over the cell at the left of the point lies a square with its top right corner there, its right side, its upper side or its
  -- inside
  pub over_left : 0 < x → count_by (covers (x - 1) y) t.squares
      ≡ count_by (top_right x y) t.squares + count_by (λ q. on_right x q && among y q) t.squares + count_by (λ q. between x q && on_top y q) t.squares +
      count_by (λ q. between x q && among y q) t.squares
  over_left some = count_four (covers (x - 1) y) (top_right x y) (λ q. on_right x q && among y q) (λ q. between x q && on_top y q)
      (λ q. between x q && among y q) t.squares
      (λ q h. cond_count-and_of_sums (nat_le q.x (x - 1) && nat_lt (x - 1) (q.x + q.s)) (on_right x q) (between x q) (nat_le q.y y && nat_lt y (q.y + q.s))
      (on_top y q)
      (among y q) (cond_count-range_to q.x q.s x (side_of t tiling q h) some) (cond_count-range_from q.y q.s y (side_of t tiling q h)))

  -- over the cell above it one with its bottom left corner there, its left side, its lower side or its inside
  pub over_above : 0 < y → count_by (covers x (y - 1)) t.squares
      ≡ count_by (bottom_left x y) t.squares + count_by (λ q. on_left x q && among y q) t.squares + count_by (λ q. between x q && on_bottom y q) t.squares +
      count_by (λ q. between x q && among y q) t.squares
  over_above some = count_four (covers x (y - 1)) (bottom_left x y) (λ q. on_left x q && among y q) (λ q. between x q && on_bottom y q)
      (λ q. between x q && among y q) t.squares
      (λ q h. cond_count-and_of_sums (nat_le q.x x && nat_lt x (q.x + q.s)) (on_left x q) (between x q) (nat_le q.y (y - 1) && nat_lt (y - 1) (q.y + q.s))
      (on_bottom y q)
      (among y q) (cond_count-range_from q.x q.s x (side_of t tiling q h)) (cond_count-range_to q.y q.s y (side_of t tiling q h) some))

  -- over the cell at the left of a point and above it lies one square with its bottom right corner there, its right side, its lower side or its inside
  pub over_both : 0 < x → 0 < y → count_by (covers (x - 1) (y - 1)) t.squares
      ≡ count_by (bottom_right x y) t.squares + count_by (λ q. on_right x q && among y q) t.squares + count_by (λ q. between x q && on_bottom y q) t.squares +
      count_by (λ q. between x q && among y q) t.squares
  over_both some more = count_four (covers (x - 1) (y - 1)) (bottom_right x y) (λ q. on_right x q && among y q) (λ q. between x q && on_bottom y q)
      (λ q. between x q && among y q) t.squares
      (λ q h. cond_count-and_of_sums (nat_le q.x (x - 1) && nat_lt (x - 1) (q.x + q.s)) (on_right x q) (between x q)
      (nat_le q.y (y - 1) && nat_lt (y - 1) (q.y + q.s))
      (on_bottom y q) (among y q) (cond_count-range_to q.x q.s x (side_of t tiling q h) some) (cond_count-range_to q.y q.s y (side_of t tiling q h) more))
