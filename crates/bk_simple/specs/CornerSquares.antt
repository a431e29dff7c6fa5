-- The parts of a tiling by the squares at their corners.
-- Example (SimpleExamples): of [2,1][1] the rectangle of the two squares at the right is the part from square 1 to
-- square 2.
use Rattle.std.specs.Prelude.{ℕ, ◌+◌, ◌<◌, ◌≡◌, ◌≤◌}
use Rattle.bk_tiling.specs.Tiling.{Rectangle, Tiling}
use Rattle.bk_tiling.specs.declared.Square.{Square}
use Rattle.bk_simple.specs.Simple.{IsPart, bottom_right, top_left}

-- the rectangle, which has a cell, goes from the top left corner of p to the bottom right corner of q
pub record IsBetween (p q : Square) (r : Rectangle) : Type 0 where
  pub left : r.x ≡ p.x
  pub top : r.y ≡ p.y
  pub right : r.x + r.width ≡ q.x + q.s
  pub bottom : r.y + r.height ≡ q.y + q.s
  pub wide : 0 < r.width
  pub high : 0 < r.height

-- the rectangle from the top left corner of p to the bottom right corner of q holds both, and doesn't go past a column
pub record IsHeldBetween (p q : Square) (right_end : ℕ) (r : Rectangle) : Type 0 where
  pub corners : IsBetween p q r
  pub first_column : p.x ≤ q.x
  pub first_level : p.y ≤ q.y
  pub last_column : p.x + p.s ≤ q.x + q.s
  pub last_level : p.y + p.s ≤ q.y + q.s
  pub narrow : q.x + q.s ≤ right_end

-- a part from the top left corner of square i to the bottom right corner of square j, counted from 0
pub record IsPartAt (t : Tiling) (i j : ℕ) (r : Rectangle) : Type 0 where
  pub part : IsPart t r
  pub first : top_left t r ≡ i
  pub last : bottom_right t r ≡ j

-- the first part, by its bottom right square, of those from the top left corner of square i
pub record IsFirstPartFrom (t : Tiling) (i : ℕ) (r : Rectangle) : Type 0 where
  pub part : IsPart t r
  pub first : top_left t r ≡ i
  pub earliest : (other : Rectangle) → IsPart t other → top_left t other ≡ i → bottom_right t r ≤ bottom_right t other
