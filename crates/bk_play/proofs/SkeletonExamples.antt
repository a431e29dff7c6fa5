-- How 2u.2eu.1e is stored, the word of the 8 by 5 rectangle of the sides 5, 3, 2, 1 and 1: its valleys, segments,
-- and records of moves.
use Rattle.std.proofs.Common.{Some, [], ap, arith, false, refl, slice_get, take, true, ◌∷◌, ◌≡◌}
use Rattle.bk_word.proofs.WordExamples.{staircase}
use Rattle.bk_word.specs.Outline.{sizes_of, start}
use Rattle.bk_word.specs.Play.{outline_of}
use Rattle.bk_word.specs.Word.{Move}
use Rattle.bk_word.specs.declared.Sign.TheVariants.{Even, Under}
use Rattle.bk_play.specs.Skeleton.{Shows, first_touched, joined_sizes, moves_stored, open_sides_of_record, signs_before, signs_of, sizes_after}
use Rattle.bk_play.specs.Skeleton.{sizes_before, records_from, with_parted}
use Rattle.bk_play.specs.SmallSkeleton.{IsValleyPlace, StandsAt}
use Rattle.bk_play.specs.MoveRecords.{SaysWhere}
use Rattle.bk_play.specs.Valley.{leftmost_valley}
use Rattle.bk_play.specs.declared.records.MoveRecord.{MoveRecord}

-- ---- the leftmost valley before each move, and how many squares each open segment has

first_valley : leftmost_valley (outline_of []) ≡ record { place = 0; left_wall = true; right_wall = true; squares = [] }
first_valley = refl

second_valley : leftmost_valley (outline_of (take 1 staircase)) ≡ record { place = 1; left_wall = false; right_wall = true; squares = 2 ∷ [] }
second_valley = refl

third_valley : leftmost_valley (outline_of (take 2 staircase)) ≡ record { place = 1; left_wall = false; right_wall = true; squares = 4 ∷ [] }
third_valley = refl

sizes_at_first : sizes_of (outline_of []) ≡ 0 ∷ []
sizes_at_first = refl

sizes_after_one : sizes_of (outline_of (take 1 staircase)) ≡ 1 ∷ 1 ∷ []
sizes_after_one = refl

sizes_after_two : sizes_of (outline_of (take 2 staircase)) ≡ 2 ∷ 1 ∷ []
sizes_after_two = refl

sizes_after_all : sizes_of (outline_of staircase) ≡ 3 ∷ []
sizes_after_all = refl

-- ---- the records of the moves

abbrev record_1 : MoveRecord
record_1 = record { place = 0; first = 0; left = 0; closed = 0; right = 0; count = 2; parted = 1; from = 0; to = 1 }

abbrev record_2 : MoveRecord
record_2 = record { place = 1; first = 1; left = 1; closed = 1; right = 0; count = 2; parted = 1; from = 1; to = 3 }

abbrev record_3 : MoveRecord
record_3 = record { place = 1; first = 2; left = 2; closed = 1; right = 0; count = 1; parted = 0; from = 3; to = 4 }

-- the second one, but for the sign that stays
but_for_one : with_parted record_2 0 ≡ record { place = 1; first = 1; left = 1; closed = 1; right = 0; count = 2; parted = 0; from = 1; to = 3 }
but_for_one = refl

records : records_from start 0 staircase ≡ record_1 ∷ record_2 ∷ record_3 ∷ []
records = refl

signs : signs_of staircase ≡ Under ∷ Even ∷ Under ∷ Even ∷ []
signs = refl

stored : moves_stored (record_1 ∷ record_2 ∷ record_3 ∷ []) (Under ∷ Even ∷ Under ∷ Even ∷ []) ≡ staircase
stored = refl

-- the third move touches both segments: they had two squares and one, with the sign under between them, and its own sign
-- makes one segment of three of them
touched : first_touched record_3 ≡ 0
touched = refl

sides : open_sides_of_record record_3 ≡ 1
sides = refl

sizes : sizes_before record_3 ≡ 2 ∷ 1 ∷ []
sizes = refl

between : signs_before record_3 ≡ Under ∷ []
between = refl

joined : sizes_after record_3 (Even ∷ []) ≡ 3 ∷ []
joined = refl

-- of a first segment of two squares and a last one of three, whose signs are even, under, even
joined_both : joined_sizes 2 3 (Even ∷ Under ∷ Even ∷ []) ≡ 3 ∷ 4 ∷ []
joined_both = refl

-- the valley of the third move has square 4 alone, with squares 1 and 3 before it; its sign is the fourth of all
says_where : SaysWhere staircase 2 record_3
says_where = record {
  count = λ m e. ap (λ (n : Move). n.count) (third m e);
  first = refl;
  closed = refl;
  order = omega arith;
  few = omega arith;
  within = omega arith;
  signs = λ m e. ap (λ (n : Move). n.signs) (third m e);
}
  where
    third : (m : Move) → slice_get staircase 2 ≡ Some m → record { count = 1; signs = Even ∷ [] } ≡ m
    third m e = cc

-- the flat lists after two moves: the open squares, the segments' sizes, the sign between them, and the closed square
shown : Shows (outline_of (take 2 staircase)) (1 ∷ 3 ∷ 4 ∷ []) (2 ∷ 1 ∷ []) (Under ∷ []) (2 ∷ [])
shown = record { ends_are = refl; sizes_are = refl; signs_are = refl; closed_are = refl }

-- the leftmost valley stands behind one segment then, which has two squares
stands : StandsAt (2 ∷ 1 ∷ []) (Under ∷ []) 1 2
stands = record { place_is = refl; first_is = refl }

-- and has square 4 alone
valley : IsValleyPlace (take 2 staircase) (record { place = 1; start = 2; end = 3 })
valley = record { stands = stands; end_is = refl }
