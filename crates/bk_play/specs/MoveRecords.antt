-- What the record of a move says of where it was played.
-- Example (SkeletonExamples): the last move of 2u.2eu.1e hangs one square under square 4, with two open squares at its
-- left.
use Rattle.std.specs.Prelude.{Some, length, slice_get, slice_range, take, ℕ, ◌+◌, ◌≡◌, ◌≤◌}
use Rattle.bk_word.specs.Outline.{valley_of}
use Rattle.bk_word.specs.Play.{outline_of}
use Rattle.bk_word.specs.Word.{Move, Word}
use Rattle.bk_word_net.specs.LaidOutline.{front_of}
use Rattle.bk_play.specs.Skeleton.{signs_of}
use Rattle.bk_play.specs.declared.records.MoveRecord.{MoveRecord}
use Rattle.bk_word.specs.declared.TheConstants.{MOST_SIGNS}

-- how many squares the move at place i hangs, where its valley's squares stood among the open ones, and where its signs
-- stand among those of all moves
pub record SaysWhere (w : Word) (i : ℕ) (noted : MoveRecord) : Type 0 where
  pub count : (m : Move) → slice_get w i ≡ Some m → noted.count ≡ m.count
  pub first : noted.first ≡ length (front_of (outline_of (take i w)))
  pub closed : noted.closed ≡ length (valley_of (outline_of (take i w)))
  pub order : noted.from ≤ noted.to
  pub few : noted.to ≤ noted.from + MOST_SIGNS
  pub within : noted.to ≤ length (signs_of w)
  pub signs : (m : Move) → slice_get w i ≡ Some m → slice_range (signs_of w) noted.from noted.to ≡ m.signs
