-- What meets a square of a tiling at its sides.
use Rattle.std.proofs.Common.{ap, arith, inl, inr, true, ℕ, ◌+◌, ◌-◌, ◌<◌, ◌≡◌, ◌≤◌, ◌⊎◌}
use Rattle.std.proofs.lemmas.Bool.{cases_lt}
use Rattle.bk_tiling.proofs.Cells.{covers_from, over_from}
use Rattle.bk_tiling.proofs.TilingGroups.{one_there}
use Rattle.bk_tiling.proofs.TilingLaws.{a_square_over_each_cell, side_of, within_of}
use Rattle.bk_tiling.specs.Tiling.{IsOneOf, IsTiling, Tiling, covers}
use Rattle.bk_tiling.specs.declared.Square.{Square}
use Rattle.bk_net.proofs.GroupSquares.{square_below_begins_at_the_bottom}

-- the square lies over the cell
pub record IsOn (i j : ℕ) (q : Square) : Type 0 where
  pub left : q.x ≤ i
  pub right : i < q.x + q.s
  pub top : q.y ≤ j
  pub bottom : j < q.y + q.s

module _ (t : Tiling) (tiling : IsTiling t) where
  -- squares over one cell are one
  pub meet : (i j : ℕ) (q r : Square) → IsOneOf q t.squares → IsOneOf r t.squares → IsOn i j q → IsOn i j r → q ≡ r
  meet i j q r h k a b = one_there t tiling q r i j h (covers_from i j q a.left a.right a.top a.bottom) k (covers_from i j r b.left b.right b.top b.bottom)

  -- a square of the tiling over a cell
  pub record IsCell (i j : ℕ) : Type 0 where
    pub square : Square
    pub is : IsOneOf square t.squares
    pub on : IsOn i j square

  -- a square over a cell that is as asked
  pub record IsThere (P : Square → Type 0) (i j : ℕ) : Type 0 where
    pub square : Square
    pub is : IsOneOf square t.squares
    pub has : P square
    pub on : IsOn i j square

  -- where the square over a cell is as asked, one is there
  pub there : (P : Square → Type 0) (i j : ℕ) (c : IsCell i j) → P c.square → IsThere P i j
  there P i j c has = record { square = c.square; is = c.is; has = has; on = c.on }

  -- each cell of the rectangle has one
  pub cell : (i j : ℕ) → i < t.width → j < t.height → IsCell i j
  cell i j a b = from (a_square_over_each_cell t tiling i j a b)
    where
      from : (q : Square) × IsOneOf q t.squares × (covers i j q ≡ true) → IsCell i j
      from (q, h, e) = record {
        square = q;
        is = h;
        on =
            record { left = (over_from i j q e).left; right = (over_from i j q e).right; top = (over_from i j q e).top; bottom = (over_from i j q e).bottom };
      }

  -- a square ends within the width
  pub right_within : (q : Square) → IsOneOf q t.squares → q.x + q.s ≤ t.width
  right_within q h = let w = (within_of t tiling q h).right in omega arith

  -- a square ends within the height
  pub bottom_within : (q : Square) → IsOneOf q t.squares → q.y + q.s ≤ t.height
  bottom_within q h = let w = (within_of t tiling q h).bottom in omega arith

  -- the side of a square is at least 1
  pub side : (q : Square) → IsOneOf q t.squares → 0 < q.s
  side = side_of t tiling

  -- what meets a square's right edge at a level
  abbrev pub MeetsRight : Square → ℕ → Type 0
  MeetsRight q y = IsThere (λ r. r.x ≡ q.x + q.s) (q.x + q.s) y

  -- at a level of a square that doesn't reach the right wall some square stands at its right
  pub right_of : (q : Square) (y : ℕ) → IsOneOf q t.squares → q.y ≤ y → y < q.y + q.s → q.x + q.s < t.width → MeetsRight q y
  right_of q y h top bottom wide = there (λ r. r.x ≡ q.x + q.s) (q.x + q.s) y c (here (cases_lt c.square.x (q.x + q.s)))
    where
      c : IsCell (q.x + q.s) y
      c = cell (q.x + q.s) y wide (omega (arith, bottom, bottom_within q h))

      here : (c.square.x < q.x + q.s) ⊎ (q.x + q.s ≤ c.square.x) → c.square.x ≡ q.x + q.s
      here (inr k) = omega (arith, k, c.on.left)
      here (inl k) = let same : q ≡ c.square =
          meet (q.x + q.s - 1) y q c.square h c.is (record { left = omega (arith, side q h); right = omega (arith, side q h); top = top; bottom = bottom })
          (record { left = omega (arith, k); right = omega (arith, c.on.right); top = c.on.top; bottom = c.on.bottom }) in
          absurd (omega (arith, ap (λ (s : Square). s.x + s.s) same, c.on.right))

  -- what meets its left edge
  abbrev pub MeetsLeft : Square → ℕ → Type 0
  MeetsLeft q y = IsThere (λ r. r.x + r.s ≡ q.x) (q.x - 1) y

  -- a square that doesn't begin at the left wall meets some square at its left
  pub left_of : (q : Square) (y : ℕ) → IsOneOf q t.squares → q.y ≤ y → y < q.y + q.s → 0 < q.x → MeetsLeft q y
  left_of q y h top bottom some = there (λ r. r.x + r.s ≡ q.x) (q.x - 1) y c (here (cases_lt q.x (c.square.x + c.square.s)))
    where
      c : IsCell (q.x - 1) y
      c = cell (q.x - 1) y (omega (arith, side q h, right_within q h)) (omega (arith, bottom, bottom_within q h))

      here : (q.x < c.square.x + c.square.s) ⊎ (c.square.x + c.square.s ≤ q.x) → c.square.x + c.square.s ≡ q.x
      here (inr k) = omega (arith, k, c.on.right, some)
      here (inl k) = let same : q ≡ c.square =
          meet q.x y q c.square h c.is (record { left = omega arith; right = omega (arith, side q h); top = top; bottom = bottom })
          (record { left = omega (arith, c.on.left); right = k; top = c.on.top; bottom = c.on.bottom }) in
          absurd (omega (arith, ap (λ (s : Square). s.x) same, c.on.left, some))

  -- what hangs below a square, under one of its columns
  abbrev pub Hangs : Square → ℕ → Type 0
  Hangs q c = IsThere (λ r. r.y ≡ q.y + q.s) c (q.y + q.s)

  -- in a column of a square that doesn't reach the bottom some square hangs below it
  pub hangs_below : (q : Square) (c : ℕ) → IsOneOf q t.squares → q.x ≤ c → c < q.x + q.s → q.y + q.s < t.height → Hangs q c
  hangs_below q c h lo hi low = let w = cell c (q.y + q.s) (omega (arith, hi, right_within q h)) low in
      there (λ r. r.y ≡ q.y + q.s) c (q.y + q.s) w
      (square_below_begins_at_the_bottom t tiling q w.square c h lo hi w.is (covers_from c (q.y + q.s) w.square w.on.left w.on.right w.on.top w.on.bottom))

  -- two squares of one column's side at one level are one
  pub same_right : (q r : Square) (y : ℕ) → IsOneOf q t.squares → IsOneOf r t.squares → q.x + q.s ≡ r.x + r.s → q.y ≤ y → y < q.y + q.s
      → r.y ≤ y → y < r.y + r.s → q ≡ r
  same_right q r y h k e a b c d = meet (q.x + q.s - 1) y q r h k
      (record { left = omega (arith, side q h); right = omega (arith, side q h); top = a; bottom = b })
      (record { left = omega (arith, e, side r k); right = omega (arith, e, side r k); top = c; bottom = d })

  -- two squares that begin at one column and share a level are one
  pub same_left : (q r : Square) (y : ℕ) → IsOneOf q t.squares → IsOneOf r t.squares → q.x ≡ r.x → q.y ≤ y → y < q.y + q.s → r.y ≤ y → y < r.y + r.s → q ≡ r
  same_left q r y h k e a b c d = meet q.x y q r h k (record { left = omega arith; right = omega (arith, side q h); top = a; bottom = b })
      (record { left = omega (arith, e); right = omega (arith, e, side r k); top = c; bottom = d })
