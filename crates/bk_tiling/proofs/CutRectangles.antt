-- A rectangle cut by a column or by a level into two.
use Rattle.std.proofs.Common.{arith, inl, inr, ℕ, ◌+◌, ◌<◌, ◌≡◌, ◌≤◌, ◌⊎◌}
use Rattle.std.proofs.lemmas.Bool.{cases_lt}
use Rattle.bk_tiling.proofs.JoinedParts.{HasCell, IsPart, Splits}
use Rattle.bk_tiling.specs.Tiling.{Rectangle}

-- the rectangle at a place, of a size
abbrev pub rectangle : ℕ → ℕ → ℕ → ℕ → Rectangle
rectangle x y w h = record { x = x; y = y; width = w; height = h }

-- columns a and b side by side, the right part at column m
module _ (x m y n a b h : ℕ) (at : m ≡ x + a) (sum : n ≡ a + b) where
  -- the left part of a rectangle lies in it
  pub left_part : IsPart (rectangle x y n h) (rectangle x y a h)
  left_part = record { left = omega arith; right = omega arith; top = omega arith; bottom = omega arith }

  -- the right part of a rectangle lies in it
  pub right_part : IsPart (rectangle x y n h) (rectangle m y b h)
  right_part = record { left = omega arith; right = omega arith; top = omega arith; bottom = omega arith }

  -- each of its cells lies in one of them
  pub split_beside : Splits (rectangle x y n h) (rectangle x y a h) (rectangle m y b h)
  split_beside i j has = cases (cases_lt i m)
    where
      cases : (i < m) ⊎ (m ≤ i) → (HasCell (rectangle x y a h) i j × (HasCell (rectangle m y b h) i j → ⊥))
          ⊎ ((HasCell (rectangle x y a h) i j → ⊥) × HasCell (rectangle m y b h) i j)
      cases (inl l) = inl (record { left = has.left; right = omega arith; top = has.top; bottom = has.bottom }, λ no. omega (arith, no.left))
      cases (inr r) = inr (λ no. omega (arith, no.right), record { left = r; right = omega (arith, has.right); top = has.top; bottom = has.bottom })

-- columns and levels exchanged
turned_cell : (x y w h i j : ℕ) → HasCell (rectangle x y w h) i j → HasCell (rectangle y x h w) j i
turned_cell x y w h i j has = record { left = has.top; right = has.bottom; top = has.left; bottom = has.right }

turned_part : (x y w h z v m n : ℕ) → IsPart (rectangle x y w h) (rectangle z v m n) → IsPart (rectangle y x h w) (rectangle v z n m)
turned_part x y w h z v m n part = record { left = part.top; right = part.bottom; top = part.left; bottom = part.right }

-- levels a and b one above the other, the lower part at level m
module _ (x y m w n a b : ℕ) (at : m ≡ y + a) (sum : n ≡ a + b) where
  -- the upper part of a rectangle lies in it
  pub upper_part : IsPart (rectangle x y w n) (rectangle x y w a)
  upper_part = turned_part y x n w y x a w (left_part y m x n a b w at sum)

  -- the lower part of a rectangle lies in it
  pub lower_part : IsPart (rectangle x y w n) (rectangle x m w b)
  lower_part = turned_part y x n w m x b w (right_part y m x n a b w at sum)

  -- each of its cells lies in one of them
  pub split_stacked : Splits (rectangle x y w n) (rectangle x y w a) (rectangle x m w b)
  split_stacked i j has = elim (split_beside y m x n a b w at sum j i (turned_cell x y w n i j has)) [
    | inl h ↦ inl (turned_cell y x a w j i h.0, λ no. h.1 (turned_cell x m w b i j no))
    | inr h ↦ inr (λ no. h.0 (turned_cell x y w a i j no), turned_cell m x b w j i h.1)
  ]
