-- Cuts: the legal moves at a state that are passed over, because no member's word goes on by them.
-- Examples (MoveCutExamples): at the start 2a may be passed over up to 2e, since its left square is the shorter one. Of
-- order 2 and the class imperfect 2e may not, since it is a member's word. After all moves of three squares that begin
-- with a comes 3e; from 2u to 3 the count grows by one, to 4 by two. Between two walls the first two signs of 3ue end
-- even, and the first alone doesn't.
use Rattle.std.specs.Prelude.{List, Some, [], length, slice_get, take, ℕ, ◌++◌, ◌+◌, ◌-◌, ◌<◌, ◌∷◌, ◌≡◌, ◌≤◌}
use Rattle.std.specs.declared.cmp.Ordering.TheVariants.{Less}
use Rattle.bk_word.specs.Outline.{IsLegalMove}
use Rattle.bk_word.specs.Play.{outline_of}
use Rattle.bk_word.specs.Word.{Move, Word, move_cmp}
use Rattle.bk_word.specs.declared.Class.{Class}
use Rattle.bk_word.specs.declared.Sign.{Sign}
use Rattle.bk_word.specs.declared.Sign.TheVariants.{Even}
use Rattle.bk_catalogue.specs.Cuts.{IsBarren}
use Rattle.bk_catalogue.specs.NextMove.{IsMoveFrom, move_after}

-- the legal moves from the one on and before the next may be passed over, because no member's word begins with these
-- moves and one of them
pub record IsCut (n : ℕ) (class : Class) (front : Word) (m next : Move) : Type 0 where
  pub up : move_cmp m next ≡ Less
  pub barren : (other : Move) → IsLegalMove (outline_of front) other → IsMoveFrom m other → move_cmp other next ≡ Less
      → IsBarren n class (front ++ other ∷ [])

-- the move with only so many of its signs, the first ones
abbrev pub front_signs : ℕ → Move → Move
front_signs kept m = record { count = m.count; signs = take kept m.signs }

-- the move that is next after all of the same count that begin with so many of the move's signs
abbrev pub passed : ℕ → Move → Move
passed kept m = move_after (front_signs kept m)

-- the next move is little greater: its count is at most one more, and its signs are not more
pub record GrowsByAtMostOne (m next : Move) : Type 0 where
  pub least : m.count ≤ next.count
  pub most : next.count ≤ m.count + 1
  pub signs : length next.signs ≤ length m.signs

-- so many signs of a move of this count are those up to an even one between two of its own squares, where its own signs
-- begin at the place
pub record IsFrontEndingEven (from count : ℕ) (signs : List Sign) (kept : ℕ) : Type 0 where
  pub low : from < kept
  pub high : kept < from + count
  pub even : slice_get signs (kept - 1) ≡ Some Even
