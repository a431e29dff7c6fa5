-- Which squares of a candidate lie in corners, told by wires and lines before any square is placed: a square lies at
-- the top where its wire begins at node 0, at the bottom where it ends at the last node, at the left where its left
-- line stands at 0, and at the right where it ends at the total.
-- Example (TiesExamples): for 2u.1e with the currents 2, 1, 1 the squares end at 2, 3 and 3. The longest square in the
-- corners at the top, at the bottom and at the left has side 2, and that at the right side 1.
use Rattle.std.specs.Prelude.{Bool, List, cond, max, nat_abs, pos, slice_index_or, suc, zero, ℕ, ℤ, ◌&&◌, ◌==◌, ◌||◌}
use Rattle.std.specs.Prelude.{◌≡◌}
use Rattle.bk_tiling.specs.declared.Square.{Square}
use Rattle.bk_layout.specs.Normal.{is_in_bottom_corner, is_in_left_corner, is_in_right_corner, is_in_top_corner}
use Rattle.bk_layout.specs.Normal.{longest}
use Rattle.bk_found.specs.declared.corners.Contact.{Contact}
use Rattle.bk_found.specs.declared.corners.Longest.{Longest}
use Rattle.bk_found.specs.Candidate.{line_place}

-- what touches two sides of a rectangle that meet lies in a corner at both
abbrev pub in_top_corner : Contact → Bool
in_top_corner c = c.top && (c.left || c.right)

abbrev pub in_bottom_corner : Contact → Bool
in_bottom_corner c = c.bottom && (c.left || c.right)

abbrev pub in_left_corner : Contact → Bool
in_left_corner c = c.left && (c.top || c.bottom)

abbrev pub in_right_corner : Contact → Bool
in_right_corner c = c.right && (c.top || c.bottom)

-- what is known of a candidate's squares: the nodes and the current of each wire, the line at the left, where each
-- ends, the total and the last node
pub record Lines : Type 0 where
  pub wires : List (ℕ × ℕ)
  pub currents : List ℤ
  pub lefts : List ℕ
  pub rights : List ℤ
  pub total : ℤ
  pub last : ℕ

-- the sides that the square at a place touches
abbrev pub contact_at : Lines → ℕ → Contact
contact_at l k = record {
  top = (slice_index_or l.wires k (0, 0)).0 == 0;
  bottom = (slice_index_or l.wires k (0, 0)).1 == l.last;
  left = nat_abs (line_place l.total l.rights (slice_index_or l.lefts k 0)) == 0;
  right = nat_abs (slice_index_or l.rights k (pos 0)) == nat_abs l.total;
}

-- the side of the square at a place, where it lies in a corner by what it touches, and else 0
abbrev pub side_in : (Contact → Bool) → Lines → ℕ → ℕ
side_in corner l k = cond (corner (contact_at l k)) (nat_abs (slice_index_or l.currents k (pos 0))) 0

-- the greatest value of a function below a number, or 0
abbrev pub greatest_below : (ℕ → ℕ) → ℕ → ℕ
greatest_below f zero = 0
greatest_below f (suc k) = max (greatest_below f k) (f k)

-- the longest of the first so many squares
pub record AreLongestTold (l : Lines) (k : ℕ) (most : Longest) : Type 0 where
  pub top : most.top ≡ greatest_below (side_in in_top_corner l) k
  pub bottom : most.bottom ≡ greatest_below (side_in in_bottom_corner l) k
  pub left : most.left ≡ greatest_below (side_in in_left_corner l) k
  pub right : most.right ≡ greatest_below (side_in in_right_corner l) k

-- the longest of squares that are placed in a rectangle of this size
pub record AreLongest (width height : ℕ) (squares : List Square) (most : Longest) : Type 0 where
  pub top : most.top ≡ longest (is_in_top_corner width) squares
  pub bottom : most.bottom ≡ longest (is_in_bottom_corner width height) squares
  pub left : most.left ≡ longest (is_in_left_corner height) squares
  pub right : most.right ≡ longest (is_in_right_corner width height) squares
