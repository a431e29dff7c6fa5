-- Bounds on the squares that are still to hang, of some outlines and words.
use Rattle.std.specs.Prelude.{[], false, refl, true, ◌∷◌, ◌≡◌}
use Rattle.bk_word.proofs.WordExamples.{move, two, word_33x32, word_65x47, word_69x61}
use Rattle.bk_word.specs.Play.{outline_of}
use Rattle.bk_word.specs.Word.{Word}
use Rattle.bk_word.specs.declared.Sign.TheVariants.{Above, Even, Under}
use Rattle.bk_word.specs.Outline.{sizes_of}
use Rattle.bk_catalogue.specs.ClosingBound.{closing_bound, closings}
use Rattle.bk_catalogue.specs.SingleValleys.{single_valleys}
use Rattle.bk_catalogue.specs.VerticalCut.{line_bound, line_bound_of, edges_on_lines, segments_of, touched}

-- four segments: the first ends below the second, that one above the third, and the third below the fourth
pub four_segments : closing_bound (Under ∷ Above ∷ Under ∷ []) ≡ 2
four_segments = refl

-- the second and the fourth are above their neighbours on the side of the first
pub from_the_first : closings (Under ∷ Above ∷ Under ∷ []) 0 ≡ 2
from_the_first = refl

-- the fourth alone on the side of the second
pub from_the_second : closings (Under ∷ Above ∷ Under ∷ []) 1 ≡ 1
from_the_second = refl

-- stairs down to the right: all but the last must be closed
pub stairs : closing_bound (Above ∷ Above ∷ Above ∷ []) ≡ 3
stairs = refl

-- one segment need not be closed
pub one_segment : closing_bound [] ≡ 0
one_segment = refl

-- two squares, of which the right one is the shorter, and then two under that, stairs down to the right
abbrev two_moves : Word
two_moves = two Under ∷ move 2 (Above ∷ Above ∷ []) ∷ []

-- the first segment and the second must be closed
pub two_moves_bound : closing_bound (outline_of two_moves).signs ≡ 2
two_moves_bound = refl

-- after two moves one segment, the first, is a valley of one square
pub two_moves_singles : single_valleys (outline_of two_moves).signs (sizes_of (outline_of two_moves)) ≡ 1
two_moves_singles = refl

-- valleys of one square and of two: the first segment and the last
pub valleys_of_one_and_two : single_valleys (Above ∷ Under ∷ []) (1 ∷ 1 ∷ 2 ∷ []) ≡ 1
valleys_of_one_and_two = refl

-- a segment between two higher ones is no valley
pub no_valley_below : single_valleys (Above ∷ Under ∷ []) (2 ∷ 1 ∷ 2 ∷ []) ≡ 0
no_valley_below = refl

-- lines stand at the left of the second and of the third square at the top
pub lines_at_the_top : edges_on_lines (move 3 (Under ∷ Above ∷ []) ∷ []) ≡ false ∷ true ∷ true ∷ []
lines_at_the_top = refl

-- a square beside another, and one under the right one that ends level with the left one: the line between them runs
-- down to the last segment
abbrev cut_in_two : Word
cut_in_two = two Under ∷ move 1 (Even ∷ []) ∷ []

-- a line stands at the left of the second square and of the third
pub lines_cut_in_two : edges_on_lines cut_in_two ≡ false ∷ true ∷ true ∷ []
lines_cut_in_two = refl

-- after a word that is cut in two by a line the last segment must be closed
pub bound_cut_in_two : line_bound_of cut_in_two ≡ 1
bound_cut_in_two = refl

-- a middle square that ends above both others must be closed, and so must the segment on which a line ends
pub middle_bound : line_bound (Under ∷ Above ∷ []) (touched (false ∷ true ∷ true ∷ []) (segments_of (1 ∷ 1 ∷ 1 ∷ []) (1 ∷ 2 ∷ 3 ∷ []))) ≡ 2
middle_bound = refl

-- at the end of the word of a simple tiling, the 33x32, no bound is left
pub end_33x32 : line_bound_of word_33x32 ≡ 0
end_33x32 = refl

-- at the end of the word of the 65x47 no bound is left
pub end_65x47 : line_bound_of word_65x47 ≡ 0
end_65x47 = refl

-- at the end of the word of the 69x61 no bound is left
pub end_69x61 : line_bound_of word_69x61 ≡ 0
end_69x61 = refl

-- at the end of the word of the 65x47 no valley of one square is left
pub singles_65x47 : single_valleys (outline_of word_65x47).signs (sizes_of (outline_of word_65x47)) ≡ 0
singles_65x47 = refl
