-- How a small skeleton is stored: as a skeleton is, with at most 16 squares; and what is kept of one to take the next
-- move back.
-- Example (SkeletonExamples): 2u.2eu.1e, of five squares. After its first two moves the leftmost valley stands behind
-- one segment, of two squares. Its one square is at place 2 of the open squares 1, 3, 4.
use Rattle.std.specs.List.{concat}
use Rattle.std.specs.Prelude.{List, length, slice_index_or, sum, take, ℕ, ◌+◌, ◌≡◌, ◌≤◌}
use Rattle.bk_word.specs.Outline.{sizes_of, valley_place}
use Rattle.bk_word.specs.Play.{outline_of}
use Rattle.bk_word.specs.Word.{Word, order_of}
use Rattle.bk_word.specs.declared.Sign.{Sign}
use Rattle.bk_play.specs.Skeleton.{IsStoredSkeleton, SkeletonLists, signs_of}
use Rattle.bk_play.specs.Valley.{IsKeptSkeleton}
use Rattle.bk_play.specs.declared.small.SmallOutline.{SmallOutline}
use Rattle.bk_play.specs.declared.small.ValleyPlace.{ValleyPlace}
use Rattle.bk_word.specs.declared.TheConstants.{INLINE_ORDER}

-- where the leftmost valley stands among open segments of these sizes, with these signs between them: how many segments
-- stand at its left, and how many squares these have
pub record StandsAt (sizes : List ℕ) (signs : List Sign) (place first : ℕ) : Type 0 where
  pub place_is : place ≡ valley_place signs
  pub first_is : first ≡ sum (take (valley_place signs) sizes)

-- where the leftmost valley of a word stands, and its squares among the open ones
pub record IsValleyPlace (w : Word) (v : ValleyPlace) : Type 0 where
  pub stands : StandsAt (sizes_of (outline_of w)) (outline_of w).signs v.place v.start
  pub end_is : v.end ≡ v.start + slice_index_or (sizes_of (outline_of w)) v.place 0

-- all that a small skeleton stores of its moves, which hang few squares
pub record IsStoredSmall (moves : Word) (lists : SkeletonLists) (place first : ℕ) : Type 0 where
  pub stored : IsStoredSkeleton moves lists
  pub valley : StandsAt lists.sizes lists.signs place first
  pub few : order_of moves ≤ INLINE_ORDER

-- the outline of a small skeleton, kept to take its next move back: the open segments, where the leftmost valley
-- stands, and how many squares are closed, how many moves there are, and how many signs these have
pub record IsOutlineOf (moves : Word) (o : SmallOutline) : Type 0 where
  pub kept : IsKeptSkeleton moves
  pub ends_are : o.open.ends.items ≡ concat (outline_of moves).segments
  pub sizes_are : o.open.sizes.items ≡ sizes_of (outline_of moves)
  pub signs_are : o.open.signs.items ≡ (outline_of moves).signs
  pub valley : StandsAt o.open.sizes.items o.open.signs.items o.open.place o.open.first
  pub closed_is : o.closed ≡ length (concat (outline_of moves).closed)
  pub records_is : o.records ≡ length moves
  pub played_is : o.played ≡ length (signs_of moves)
