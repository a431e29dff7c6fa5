-- The cut by lines that share a node: moves after which two lines at one open segment share a closed node that they
-- can't share in a word of a sound layout. A statement alone; it is proved apart.
-- Example (NodeCutExamples): after 3aa.2ue.1ea the left wall and the line between the squares 2 and 3 share the top.
use Rattle.std.specs.Prelude.{List, Some, slice_get, suc, ℕ, ◌-◌, ◌≡◌, ◌≤◌, ◌⊎◌}
use Rattle.bk_word.specs.Outline.{Outline}
use Rattle.bk_word.specs.Play.{outline_of}
use Rattle.bk_word.specs.Word.{Word}
use Rattle.bk_layout.specs.FreeCuts.{IsFreeBarren}
use Rattle.bk_layout.specs.LineNumbers.{sides_at, square_lines}
use Rattle.bk_layout.specs.SharedNodes.{IsAtClosed}

-- the line of this number lies beside a square that hangs from the closed node, or ends on it
pub record TouchesClosed (o : Outline) (sides : List (ℕ × ℕ)) (line v : ℕ) : Type 0 where
  pub place : ℕ
  pub at : IsAtClosed o place v
  pub beside : ((sides_at sides (suc place)).0 ≡ line) ⊎ ((sides_at sides (suc place)).1 ≡ line)

-- the line at the left of the square a and that at the right of the square b, not before a on the same open segment,
-- touch one closed node, which isn't that from which a hangs as the one square between; and they are not the two walls
pub record ShareANode (front : Word) : Type 0 where
  pub segment : ℕ
  pub numbers : List ℕ
  pub is : slice_get (outline_of front).segments segment ≡ Some numbers
  pub i : ℕ
  pub j : ℕ
  pub a : ℕ
  pub b : ℕ
  pub first : slice_get numbers i ≡ Some a
  pub second : slice_get numbers j ≡ Some b
  pub order : i ≤ j
  pub node : ℕ
  pub left : TouchesClosed (outline_of front) (square_lines front) (sides_at (square_lines front) a).0 node
  pub right : TouchesClosed (outline_of front) (square_lines front) (sides_at (square_lines front) b).1 node
  pub not_own : i ≡ j → slice_get (outline_of front).hung (a - 1) ≡ Some node → ⊥
  pub not_walls : (sides_at (square_lines front) a).0 ≡ 0 → (sides_at (square_lines front) b).1 ≡ 1 → ⊥

abbrev pub SharedNodeIsFreeBarren : Type 0
SharedNodeIsFreeBarren = (n : ℕ) (front : Word) → ShareANode front → IsFreeBarren n front
