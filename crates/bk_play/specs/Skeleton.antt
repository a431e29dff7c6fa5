-- How a skeleton is stored: its outline as flat lists, and a record for each move, by which the move is taken back.
-- Example (SkeletonExamples): the last move of 2u.2eu.1e makes one segment of three squares of one of two and one of
-- one.
use Rattle.std.specs.List.{concat}
use Rattle.std.specs.Prelude.{List, [], cond, count_by, flat_map, length, map, max, min, nat_eq, slice_index}
use Rattle.std.specs.Prelude.{slice_range, sum, take, ℕ, ◌+◌, ◌-◌, ◌∷◌, ◌≡◌, ◌≤◌}
use Rattle.bk_word.specs.Outline.{Outline, sizes_of, start, valley_place}
use Rattle.bk_word.specs.Play.{after_move, outline_of, parts}
use Rattle.bk_word.specs.Word.{Move, Word}
use Rattle.bk_word.specs.declared.Sign.{Sign}
use Rattle.bk_word.specs.declared.Sign.TheVariants.{Above, Under}
use Rattle.bk_play.specs.Valley.{IsKeptSkeleton}
use Rattle.bk_play.specs.declared.records.MoveRecord.{MoveRecord}

-- the record of a move, whose signs begin at this place of all moves' signs, by the sizes of the open segments and the
-- signs between them: the valley's place, how many open squares stand at its left, how many squares the valley and the
-- segments beside it have (none beside a wall), and how many signs of the move stay between segments
abbrev pub record_of : List ℕ → List Sign → Move → ℕ → MoveRecord
record_of sizes signs m from = record {
  place = valley_place signs;
  first = sum (take (valley_place signs) sizes);
  left = cond (nat_eq (valley_place signs) 0) 0 (slice_index sizes (valley_place signs - 1));
  closed = slice_index sizes (valley_place signs);
  right = cond (nat_eq (valley_place signs) (length signs)) 0 (slice_index sizes (valley_place signs + 1));
  count = m.count;
  parted = count_by parts m.signs;
  from = from;
  to = from + length m.signs;
}

-- the record of a move with so many signs that stay between segments
abbrev pub with_parted : MoveRecord → ℕ → MoveRecord
with_parted noted parted = record {
  place = noted.place;
  first = noted.first;
  left = noted.left;
  closed = noted.closed;
  right = noted.right;
  count = noted.count;
  parted = parted;
  from = noted.from;
  to = noted.to;
}

-- the place of the first segment that a move touches: the one left of the valley, or the valley at the wall
abbrev pub first_touched : MoveRecord → ℕ
first_touched noted = noted.place - min noted.left 1

-- how many of the valley's sides are no walls
abbrev pub open_sides_of_record : MoveRecord → ℕ
open_sides_of_record noted = min noted.left 1 + min noted.right 1

-- the sizes of the segments that a move touched, as they were before it, and the signs between them
abbrev pub sizes_before : MoveRecord → List ℕ
sizes_before noted = slice_range (noted.left ∷ noted.closed ∷ noted.right ∷ [])
    (1 - min noted.left 1) (2 + min noted.right 1)

abbrev pub signs_before : MoveRecord → List Sign
signs_before noted = slice_range (Under ∷ Above ∷ []) (1 - min noted.left 1) (1 + min noted.right 1)

-- an exchange in the lists of a skeleton, from the segment at a place on: how many signs give way, and how many come
-- for them; of the sizes beside them it is one more each
pub record Exchange : Type 0 where
  pub start : ℕ
  pub old : ℕ
  pub new : ℕ

-- the exchange that the move of a record makes, and the one that takes the move back
abbrev pub exchange_of : MoveRecord → Exchange
exchange_of noted = record {
  start = first_touched noted;
  old = open_sides_of_record noted;
  new = noted.parted;
}

abbrev pub exchange_back_of : MoveRecord → Exchange
exchange_back_of noted = record {
  start = first_touched noted;
  old = noted.parted;
  new = open_sides_of_record noted;
}

-- an exchange can be made in lists that have room for so many items: the signs and the sizes that give way are there,
-- and there is room for those that come
pub record GiveWay (most : ℕ) (x : Exchange) (sizes : List ℕ) (signs : List Sign) : Type 0 where
  pub sizes_within : x.start + (x.old + 1) ≤ length sizes
  pub signs_within : x.start + x.old ≤ length signs
  pub sizes_fit : length sizes - (x.old + 1) + (x.new + 1) ≤ most
  pub signs_fit : length signs - x.old + x.new ≤ most

-- the size of the next segment while segments are joined: one new square, or the last segment
abbrev pub next_size : ℕ → List Sign → ℕ
next_size last [] = last
next_size last (g ∷ signs) = 1

-- the sizes of segments that the signs join or part: the first of this size, then one square each, and a last one
abbrev pub joined_sizes : ℕ → ℕ → List Sign → List ℕ
joined_sizes size last [] = size ∷ []
joined_sizes size last (g ∷ signs) = cond (parts g) (size ∷ joined_sizes (next_size last signs) last signs)
    (joined_sizes (size + next_size last signs) last signs)

-- the sizes of the segments that stand in the place of those that a move touches
abbrev pub sizes_after : MoveRecord → List Sign → List ℕ
sizes_after noted signs = joined_sizes (max noted.left 1) (max noted.right 1) signs

-- the records of moves that are played one after another
abbrev pub records_from : Outline → ℕ → Word → List MoveRecord
records_from o from [] = []
records_from o from (m ∷ moves) = record_of (sizes_of o) o.signs m from ∷ records_from (after_move o m)
    (from + length m.signs) moves

-- the signs of all moves, one after another
abbrev pub signs_of : Word → List Sign
signs_of moves = flat_map (λ m. m.signs) moves

-- the move of a record, out of the signs of all moves
abbrev pub move_of : List Sign → MoveRecord → Move
move_of played noted = record { count = noted.count; signs = slice_range played noted.from noted.to }

-- the moves that are stored
abbrev pub moves_stored : List MoveRecord → List Sign → Word
moves_stored records played = map (move_of played) records

-- the flat lists show an outline: the numbers of the open squares from left to right, how many each segment has, the
-- signs between the segments, and the numbers of the closed squares, node by node
pub record Shows (o : Outline) (ends sizes : List ℕ) (signs : List Sign) (closed : List ℕ) : Type 0 where
  pub ends_are : ends ≡ concat o.segments
  pub sizes_are : sizes ≡ sizes_of o
  pub signs_are : signs ≡ o.signs
  pub closed_are : closed ≡ concat o.closed

-- the lists of a skeleton: the numbers of the open squares from left to right, how many each segment has, the signs
-- between the segments, the numbers of the closed squares, node by node, the records of the moves, and the signs of all
-- moves
pub record SkeletonLists : Type 0 where
  pub ends : List ℕ
  pub sizes : List ℕ
  pub signs : List Sign
  pub closed : List ℕ
  pub records : List MoveRecord
  pub played : List Sign

-- all that a skeleton stores of its moves
pub record IsStoredSkeleton (moves : Word) (lists : SkeletonLists) : Type 0 where
  pub kept : IsKeptSkeleton moves
  pub shows : Shows (outline_of moves) lists.ends lists.sizes lists.signs lists.closed
  pub records_are : lists.records ≡ records_from start 0 moves
  pub played_are : lists.played ≡ signs_of moves
