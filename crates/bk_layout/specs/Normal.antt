-- Normal tilings: those of few moves, and with no fewer squares at the top than at the bottom and at the right than at
-- the left. Each tiling has a normal image, so a search for tilings may pass over the others. Statements alone; they
-- are proved apart.
-- Example (CountExamples): the rectangle 33x32 has 9 squares, 5 moves, 2 squares at the top and at the left and 3 at
-- the bottom and at the right. It isn't normal, but its image with top and bottom exchanged is.
use Rattle.std.specs.Prelude.{Bool, List, [], cond, count_by, length, max, ℕ, ◌&&◌, ◌*◌, ◌+◌, ◌==◌, ◌||◌, ◌∷◌, ◌≡◌, ◌≤◌}
use Rattle.bk_tiling.specs.SquareGroups.{square_groups}
use Rattle.bk_tiling.specs.Tiling.{IsTiling, Tiling, order}
use Rattle.bk_tiling.specs.declared.Square.{Square}
use Rattle.bk_sym.specs.Image.{image}
use Rattle.bk_sym.specs.declared.Turn.{Turn}

-- how many squares there are, nodes from which squares hang (each is a move of the word), and squares at each side
pub record Counts : Type 0 where
  pub squares : ℕ
  pub moves : ℕ
  pub top : ℕ
  pub bottom : ℕ
  pub left : ℕ
  pub right : ℕ

-- the square lies at the top of the rectangle
abbrev pub is_at_top : Square → Bool
is_at_top q = q.y == 0

-- the square lies at the bottom of a rectangle of this height
abbrev pub is_at_bottom : ℕ → Square → Bool
is_at_bottom height q = q.y + q.s == height

-- the square lies at the left of the rectangle
abbrev pub is_at_left : Square → Bool
is_at_left q = q.x == 0

-- the square lies at the right of a rectangle of this width
abbrev pub is_at_right : ℕ → Square → Bool
is_at_right width q = q.x + q.s == width

-- the counts of a tiling: its nodes are the groups of its code and the bottom, from which nothing hangs
abbrev pub counts_of : Tiling → Counts
counts_of t = record {
  squares = order t;
  moves = length (square_groups t.squares);
  top = count_by is_at_top t.squares;
  bottom = count_by (is_at_bottom t.height) t.squares;
  left = count_by is_at_left t.squares;
  right = count_by (is_at_right t.width) t.squares;
}

-- the nodes, one more than the moves, are half of three more than the squares
abbrev pub IsHalf : Counts → Type 0
IsHalf c = 2 * (c.moves + 1) ≡ c.squares + 3

-- normal counts: the nodes are at most half of three more than the squares; where they are just half, no more squares
-- lie at the right than at the top; and no more lie at the bottom than at the top, and at the left than at the right
pub record AreNormal (c : Counts) : Type 0 where
  pub few : 2 * (c.moves + 1) ≤ c.squares + 3
  pub half : IsHalf c → c.right ≤ c.top
  pub level : c.bottom ≤ c.top
  pub across : c.left ≤ c.right

-- a normal tiling
abbrev pub IsNormal : Tiling → Type 0
IsNormal t = AreNormal (counts_of t)

-- the square lies in a corner at the top
abbrev pub is_in_top_corner : ℕ → Square → Bool
is_in_top_corner width q = is_at_top q && (is_at_left q || is_at_right width q)

-- the square lies in a corner at the bottom
abbrev pub is_in_bottom_corner : ℕ → ℕ → Square → Bool
is_in_bottom_corner width height q = is_at_bottom height q && (is_at_left q || is_at_right width q)

-- the square lies in a corner at the left
abbrev pub is_in_left_corner : ℕ → Square → Bool
is_in_left_corner height q = is_at_left q && (is_at_top q || is_at_bottom height q)

-- the square lies in a corner at the right
abbrev pub is_in_right_corner : ℕ → ℕ → Square → Bool
is_in_right_corner width height q = is_at_right width q && (is_at_top q || is_at_bottom height q)

-- the longest side of the squares that pass a test, or 0
abbrev pub longest : (Square → Bool) → List Square → ℕ
longest test [] = 0
longest test (q ∷ squares) = max (cond (test q) q.s 0) (longest test squares)

-- where two counts of a normal tiling tie, others decide. With as many nodes as half of three more than the squares,
-- and as many squares at the right as at the top, no more lie at the left than at the bottom, and where these are as
-- many too, the rectangle is at least as wide as high; with as many squares at the bottom as at the top the longest in
-- a corner is no longer at the bottom than at the top, and with as many at the left as at the right no longer at the
-- right than at the left
pub record AreTiesSettled (t : Tiling) : Type 0 where
  pub sides : IsHalf (counts_of t) → (counts_of t).right ≡ (counts_of t).top → (counts_of t).left ≤ (counts_of t).bottom
  pub size : IsHalf (counts_of t) → (counts_of t).right ≡ (counts_of t).top → (counts_of t).left ≡ (counts_of t).bottom
      → t.height ≤ t.width
  pub level : (counts_of t).bottom ≡ (counts_of t).top
      → longest (is_in_bottom_corner t.width t.height) t.squares ≤ longest (is_in_top_corner t.width) t.squares
  pub across : (counts_of t).left ≡ (counts_of t).right
      → longest (is_in_right_corner t.width t.height) t.squares ≤ longest (is_in_left_corner t.height) t.squares

-- a turn by which the image is normal, and its ties are settled
pub record HasNormalImage (t : Tiling) : Type 0 where
  pub turn : Turn
  pub normal : IsNormal (image turn t)
  pub ties : AreTiesSettled (image turn t)

-- each tiling has a normal image with its ties settled
abbrev pub EachTilingHasANormalImage : Type 0
EachTilingHasANormalImage = (t : Tiling) → IsTiling t → HasNormalImage t
