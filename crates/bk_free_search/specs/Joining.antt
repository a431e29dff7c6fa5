-- A move of one square, with the segments beside the leftmost valley that it joins: where the sign at a side is even,
-- the squares of the segment there end on one node with the new one.
-- Example (JoiningExamples): after 3aa.2ue the valley is that of the squares 5 and 2. The move 1ea joins its square
-- with the square 4, and 1ee with the square 3 too.
use Rattle.std.specs.Prelude.{List, Some, [], length, slice_get, ℕ, ◌+◌, ◌-◌, ◌<◌, ◌≡◌, ◌⊎◌}
use Rattle.bk_word.specs.Outline.{Outline, valley_place}
use Rattle.bk_word.specs.Play.{outline_of}
use Rattle.bk_word.specs.Word.{Move, Word}
use Rattle.bk_word.specs.declared.Sign.TheVariants.{Even}
use Rattle.bk_layout.specs.LineNumbers.{sides_at, square_lines}
use Rattle.bk_layout.specs.NodeCut.{TouchesClosed}
use Rattle.bk_free_search.specs.NodeLines.{Has}
use Rattle.bk_free_search.specs.declared.line_set.LineSet.{LineSet}

-- these are the squares of the segment at the left of the valley, and the move's first sign is even; or there are none
-- of them
abbrev pub JoinsLeft : Outline → Move → List ℕ → Type 0
JoinsLeft o m squares = (squares ≡ [])
    ⊎ ((0 < valley_place o.signs) × (slice_get o.segments (valley_place o.signs - 1) ≡ Some squares)
    × (slice_get m.signs 0 ≡ Some Even))

-- these are the squares of the segment at the right of the valley, and the move's last sign is even; or there are none
-- of them
abbrev pub JoinsRight : Outline → Move → List ℕ → Type 0
JoinsRight o m squares = (squares ≡ [])
    ⊎ ((slice_get o.segments (valley_place o.signs + 1) ≡ Some squares)
    × (slice_get m.signs (length m.signs - 1) ≡ Some Even))

-- two lines touch one closed node, and are not the two walls
pub record TouchOneNode (w : Word) (left right : ℕ) : Type 0 where
  pub node : ℕ
  pub at_left : TouchesClosed (outline_of w) (square_lines w) left node
  pub at_right : TouchesClosed (outline_of w) (square_lines w) right node
  pub not_walls : left ≡ 0 → right ≡ 1 → ⊥

-- a line of one set and one of another touch one closed node, and are not the two walls
pub record TouchOneOf (w : Word) (lefts rights : LineSet) : Type 0 where
  pub left : ℕ
  pub right : ℕ
  pub in_lefts : Has lefts left
  pub in_rights : Has rights right
  pub touch : TouchOneNode w left right

-- the line at the left of one of these squares and this line touch one closed node, and are not the two walls
pub record ShareBefore (w : Word) (squares : List ℕ) (right : ℕ) : Type 0 where
  pub place : ℕ
  pub number : ℕ
  pub at : slice_get squares place ≡ Some number
  pub touch : TouchOneNode w (sides_at (square_lines w) number).0 right

-- the line at the right of one of the later squares touches one closed node with this line, or with the line at the
-- left of one of the earlier squares, and they are not the two walls
pub record ShareBehind (w : Word) (left : ℕ) (earlier later : List ℕ) : Type 0 where
  pub place : ℕ
  pub number : ℕ
  pub at : slice_get later place ≡ Some number
  pub touch : TouchOneNode w left (sides_at (square_lines w) number).1
      ⊎ ShareBefore w earlier (sides_at (square_lines w) number).1
