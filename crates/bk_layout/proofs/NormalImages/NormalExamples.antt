-- The rectangle 3x2 of the squares 2, 1, 1 with the word 2u.1e, and first moves that no word of a normal layout has.
use Rattle.std.proofs.Common.{[], arith, false, inl, inr, refl, subst, sym, true, ◌∷◌, ◌≡◌}
use Rattle.bk_word.proofs.WordExamples.{move, two}
use Rattle.bk_word.specs.Word.{Word}
use Rattle.bk_word.specs.declared.Sign.TheVariants.{Above, Even, Under}
use Rattle.bk_word_net.proofs.WordFlows.WordNetExamples.{word_3x2}
use Rattle.bk_layout.proofs.Sweeps.LayoutExamples.{layout_3x2}
use Rattle.bk_layout.specs.Normal.{AreNormal}
use Rattle.bk_layout.specs.LayoutCounts.{counts_of_layout}
use Rattle.bk_catalogue.specs.VerticalCut.{line_bound_of}
use Rattle.bk_layout.specs.LineNumbers.{square_lines}
use Rattle.bk_layout.proofs.NormalCuts.MovesLeft.{too_few_moves_is_normal_barren}
use Rattle.bk_layout.proofs.FreeCuts.SquaresLeft.{too_many_squares_is_normal_barren}
use Rattle.bk_layout.specs.NormalCuts.{AreMostMoves, IsNormalBarren, most_moves_of, touched_or_wide}
use Rattle.bk_layout.specs.NormalLayout.{IsNormalLayout}
use Rattle.bk_layout.specs.StrongBound.{strong_bound_of, strong_from, weight_from, weight_of}
use Rattle.bk_layout.specs.WordNumbers.{first_count, left_moves, left_squares, right_moves, right_squares}

-- one square stands at the left, two at the right; two hang from the top, and two end on the bottom
normal_3x2 : IsNormalLayout layout_3x2
normal_3x2 = subst AreNormal (sym counts_3x2) (record { few = omega arith; half = λ e. omega arith; level = omega arith; across = omega arith })
  where
    counts_3x2 : counts_of_layout layout_3x2 ≡ record { squares = 3; moves = 2; top = 2; bottom = 2; left = 1; right = 2 }
    counts_3x2 = refl

-- the lines of its squares: one has line 0 at its left, two have line 1 at their right
lines_3x2 : square_lines word_3x2 ≡ (0, 2) ∷ (2, 1) ∷ (2, 1) ∷ []
lines_3x2 = refl

squares_3x2 : (left_squares word_3x2 ≡ 1) × (right_squares word_3x2 ≡ 2)
squares_3x2 = (refl, refl)

-- as many as its moves at the walls
moves_3x2 : (left_moves word_3x2 ≡ 1) × (right_moves word_3x2 ≡ 2)
moves_3x2 = (refl, refl)

-- ---- two squares, and then two under the right one, of which the second ends lower

abbrev pub two_under : Word
two_under = two Under ∷ move 2 (Under ∷ Above ∷ []) ∷ []

-- the first segment ends beside the line between the first two squares, and so does the second: two must be closed
two_closings : line_bound_of two_under ≡ 2
two_closings = refl

-- of five squares one is left, which is one move
pub no_moves_left : IsNormalBarren 5 two_under
no_moves_left = too_few_moves_is_normal_barren 5 3 two_under (omega arith) (inl (omega arith)) (omega (arith, two_closings))

-- of six squares two are left, and one move, which takes no three segments and two squares to one segment
no_room_left : IsNormalBarren 6 two_under
no_room_left = too_many_squares_is_normal_barren 6 3 two_under (inl (omega arith)) (omega arith)

-- ---- two squares, then two stairs more, and one even with the second: three squares stand at the right wall, and two at the top

abbrev three_at_right : Word
three_at_right = two Under ∷ move 2 (Under ∷ Under ∷ []) ∷ move 1 (Even ∷ []) ∷ []

at_the_walls : (first_count three_at_right ≡ 2) × (left_squares three_at_right ≡ 1) × (right_squares three_at_right ≡ 3)
at_the_walls = (refl, refl, refl)

-- so a word of a normal layout of seven squares that begins so has no fourth move
no_fourth_move : AreMostMoves 7 three_at_right 3
no_fourth_move = inr (omega arith, omega (arith, at_the_walls.0, at_the_walls.1, at_the_walls.2))

-- of seven squares a word has at most four moves, and with these beginning three; of eight squares four
most_moves : (most_moves_of 7 (two Under ∷ []) ≡ 4) × (most_moves_of 7 three_at_right ≡ 3) × (most_moves_of 8 three_at_right ≡ 4)
most_moves = (refl, refl, refl)

-- ---- marks

-- a segment of two squares is as wide as the top, where two hang from it
wide_segment : touched_or_wide 2 [] ((1 ∷ 3 ∷ []) ∷ (4 ∷ []) ∷ []) ≡ true ∷ false ∷ []
wide_segment = refl

-- ---- valleys of one square

-- of two segments of one square the left one is a valley: two moves are left at least, and three squares
one_valley : (strong_from true (Above ∷ []) (1 ∷ 1 ∷ []) (false ∷ false ∷ []) ≡ 2) × (weight_from true (Above ∷ []) (1 ∷ 1 ∷ []) ≡ 1)
one_valley = (refl, refl)

-- where the right one is, no segment stands at its right: three moves, and five squares
last_valley : (strong_from true (Under ∷ []) (1 ∷ 1 ∷ []) (false ∷ false ∷ []) ≡ 3) × (weight_from true (Under ∷ []) (1 ∷ 1 ∷ []) ≡ 2)
last_valley = (refl, refl)

-- a mark counts for one more
one_mark : strong_from true (Under ∷ []) (1 ∷ 2 ∷ []) (true ∷ false ∷ []) ≡ 2
one_mark = refl

-- so it is after these moves: the second segment, of one square, is a valley
two_under_bounds : (strong_bound_of two_under ≡ 3) × (weight_of two_under ≡ 1)
two_under_bounds = (refl, refl)
