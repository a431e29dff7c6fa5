-- The leftmost valley of an outline, and what the play makes of a skeleton that callers see.
-- Example (SkeletonExamples): before the last move of 2u.2eu.1e the leftmost valley is square 4 alone, at the right
-- wall.
use Rattle.std.specs.Prelude.{Bool, List, ℕ, ◌≤◌}
use Rattle.bk_word.specs.Outline.{Outline, has_left_wall, has_right_wall, valley_of, valley_place}
use Rattle.bk_word.specs.Play.{IsLegal}
use Rattle.bk_word.specs.Word.{Word, order_of}
use Rattle.bk_word.specs.declared.TheConstants.{LARGEST_ORDER}

-- how many open segments stand at a valley's left, whether it has a wall at its left and at its right, and the
-- numbers of its squares from left to right
pub record Valley : Type 0 where
  pub place : ℕ
  pub left_wall : Bool
  pub right_wall : Bool
  pub squares : List ℕ

-- the leftmost valley
abbrev pub leftmost_valley : Outline → Valley
leftmost_valley o = record {
  place = valley_place o.signs;
  left_wall = has_left_wall o;
  right_wall = has_right_wall o;
  squares = valley_of o;
}

-- what holds of the moves of each skeleton
pub record IsKeptSkeleton (moves : Word) : Type 0 where
  pub legal : IsLegal moves
  pub few : order_of moves ≤ LARGEST_ORDER
