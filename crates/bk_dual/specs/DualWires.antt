-- The vertical segments of a tiling, and how the wires of its dual diagram lead from one to another.
use Rattle.std.specs.Prelude.{IsSomeAnd, List, length, map, slice_get, ℕ, ◌+◌, ◌-◌, ◌<◌, ◌≡◌, ◌≤◌, ◌⊎◌}
use Rattle.bk_laws.specs.HasAt.{HasAt}
use Rattle.bk_tiling.specs.SquareGroups.{square_groups}
use Rattle.bk_tiling.specs.Tiling.{IsOneOf, Tiling}
use Rattle.bk_tiling.specs.declared.Square.{Square}
use Rattle.bk_sym.specs.Image.{image}
use Rattle.bk_sym.specs.declared.Turn.TheVariants.{Swap}
use Rattle.bk_dual.specs.Dual.{dual_diagram}

-- the square with column and level exchanged
abbrev pub exchanged : Square → Square
exchanged q = record { x = q.y; y = q.x; s = q.s }

-- the vertical segments, from left to right, and from top to bottom in one column; of each the squares whose left sides
-- lie on it, from top to bottom: the groups of the tiling with columns and levels exchanged
abbrev pub vertical_segments : Tiling → List (List Square)
vertical_segments t = map (map exchanged) (square_groups (image Swap t).squares)

-- the node is the vertical segment at the square's left: the square's left side lies on it
abbrev pub IsAtLeft : Tiling → Square → ℕ → Type 0
IsAtLeft t q v = IsSomeAnd (slice_get (vertical_segments t) v) (λ squares. IsOneOf q squares)

-- r is at the right of q: it begins in the column where q ends, and covers the level of the top of q
pub record IsBeside (q r : Square) : Type 0 where
  pub column : r.x ≡ q.x + q.s
  pub top : r.y ≤ q.y
  pub bottom : q.y < r.y + r.s

-- the node is the vertical segment at the square's right: a square at its right has its left side there; or it is the
-- right side of the rectangle, where the square ends
abbrev pub IsAtRight : Tiling → Square → ℕ → Type 0
IsAtRight t q v =
    IsSomeAnd (slice_get (vertical_segments t) v) (λ squares. (r : Square) × IsOneOf r squares × IsBeside q r)
    ⊎ ((v ≡ length (vertical_segments t)) × (q.x + q.s ≡ t.width))

-- the wire leads from the vertical segment at the left of the square with this number to the one at its right
pub record LeadsAcross (t : Tiling) (wire : ℕ × ℕ) (number : ℕ) : Type 0 where
  pub square : Square
  pub some : 0 < number
  pub is : HasAt t.squares (number - 1) square
  pub left : IsAtLeft t square wire.0
  pub right : IsAtRight t square wire.1

-- each wire of the dual diagram for which a number stands leads from the vertical segment at the left of the square
-- with this number to the one at its right. Example (DualExamples): four squares of side 1 have three vertical segments
-- with two, two and no squares at their right, the wires 0-1, 0-1, 1-2 and 1-2, and the numbers 1, 3, 2, 4
abbrev pub WiresLeadAcross : Tiling → List ℕ → Type 0
WiresLeadAcross t numbers = (k : ℕ) (wire : ℕ × ℕ) (number : ℕ) → HasAt (dual_diagram t).wires k wire
    → HasAt numbers k number → LeadsAcross t wire number
