-- The lines that closed nodes touch, as a board keeps them: those at the sides of the squares that end on the node, and
-- of those that hang from it. For example, in 3aa.2ue.1ea the first node touches the lines 0 to 3, and the second one
-- the lines 0, 2 and 5.
use Rattle.std.specs.Int.{bit_at}
use Rattle.std.specs.Prelude.{List, Some, length, slice_get, slice_index_or, ℕ, ◌+◌, ◌-◌, ◌<◌, ◌≡◌, ◌≤◌, ◌⊎◌}
use Rattle.bk_word.specs.Play.{outline_of}
use Rattle.bk_word.specs.Word.{Word}
use Rattle.bk_layout.specs.LineNumbers.{square_lines}
use Rattle.bk_layout.specs.NodeCut.{TouchesClosed}
use Rattle.bk_free_search.specs.declared.line_set.LineSet.{LineSet}
use Rattle.bk_free_search.specs.declared.node_lines.NewSquares.{NewSquares}
use Rattle.bk_free_search.specs.declared.line_set.TheConstants.{MOST_LINES}

-- the set has the line
abbrev pub Has : LineSet → ℕ → Type 0
Has lines line = bit_at lines.bits line ≡ 1

-- lines by these numbers, and the walls, can stand in a set
abbrev pub AreLow : List ℕ → Type 0
AreLow lines = (k wall : ℕ) → wall ≤ 1 → slice_index_or lines k wall < MOST_LINES

-- the line is at one side of one of these squares, by the lines of all squares at that side, where the wall stands
pub record IsLineOfOne (lines squares : List ℕ) (wall line : ℕ) : Type 0 where
  pub place : ℕ
  pub number : ℕ
  pub at : slice_get squares place ≡ Some number
  pub is : slice_index_or lines (number - 1) wall ≡ line

-- one of these nodes touches the line, and a line of a set
pub record TouchesWith (nodes : List LineSet) (lines : LineSet) (line : ℕ) : Type 0 where
  pub node : ℕ
  pub touched : LineSet
  pub at : slice_get nodes node ≡ Some touched
  pub has_line : Has touched line
  pub other : ℕ
  pub in_lines : Has lines other
  pub has_other : Has touched other

-- one of these nodes touches a line of each of two sets
pub record TouchBoth (nodes : List LineSet) (lefts rights : LineSet) : Type 0 where
  pub right : ℕ
  pub in_rights : Has rights right
  pub touches : TouchesWith nodes lefts right

-- one of these nodes touches a line of each of two sets, which are not the two walls
pub record HasPair (nodes : List LineSet) (lefts rights : LineSet) : Type 0 where
  pub node : ℕ
  pub lines : LineSet
  pub at : slice_get nodes node ≡ Some lines
  pub left : ℕ
  pub right : ℕ
  pub in_lefts : Has lefts left
  pub in_rights : Has rights right
  pub has_left : Has lines left
  pub has_right : Has lines right
  pub not_walls : left ≡ 0 → right ≡ 1 → ⊥

-- the line lies at a side of the square of this number, by the left and the right lines of all squares
abbrev pub IsAtSquare : List ℕ → List ℕ → ℕ → ℕ → Type 0
IsAtSquare lefts rights number line = (slice_index_or lefts (number - 1) 0 ≡ line)
    ⊎ (slice_index_or rights (number - 1) 1 ≡ line)

-- the line lies at a side of one of these squares
pub record IsBesideOneOf (lefts rights squares : List ℕ) (line : ℕ) : Type 0 where
  pub place : ℕ
  pub number : ℕ
  pub at : slice_get squares place ≡ Some number
  pub beside : IsAtSquare lefts rights number line

-- the line lies at a side of one of the `count` squares that were hung after the first `hung`
pub record IsBesideNew (lefts rights : List ℕ) (hung count line : ℕ) : Type 0 where
  pub k : ℕ
  pub low : k < count
  pub beside : IsAtSquare lefts rights (hung + k + 1) line

-- new squares stand between a first and a last line, and each two of them at a line of their own
pub record StandBetween (lefts rights : List ℕ) (new : NewSquares) : Type 0 where
  pub first_is : slice_index_or lefts new.hung 0 ≡ new.first
  pub last_is : slice_index_or rights (new.hung + new.count - 1) 1 ≡ new.last
  pub lefts_are : (k : ℕ) → k + 1 < new.count → slice_index_or lefts (new.hung + k + 1) 0 ≡ new.hung + k + 2
  pub rights_are : (k : ℕ) → k + 1 < new.count → slice_index_or rights (new.hung + k) 1 ≡ new.hung + k + 2

-- for each closed node of the word the set of the lines that touch it; lines past those that a set keeps may be left
-- out
pub record AreNodeLines (w : Word) (nodes : List LineSet) : Type 0 where
  pub as_many : length nodes ≡ length w
  pub touch : (v line : ℕ) (lines : LineSet) → slice_get nodes v ≡ Some lines → Has lines line
      → TouchesClosed (outline_of w) (square_lines w) line v
  pub all : (v line : ℕ) (lines : LineSet) → slice_get nodes v ≡ Some lines → line < MOST_LINES
      → TouchesClosed (outline_of w) (square_lines w) line v → Has lines line
