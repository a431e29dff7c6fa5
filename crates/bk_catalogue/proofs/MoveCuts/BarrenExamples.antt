-- Moves with which no member's word begins, and corners of a canonical tiling.
use Rattle.std.specs.Prelude.{[], refl, ℕ, ◌∷◌, ◌≤◌}
use Rattle.std.proofs.Common.{arith, inl, inr, lit<, lit≤}
use Rattle.bk_tiling.proofs.ExampleTilings.{rectangle_69x61, square_at}
use Rattle.bk_sym.specs.declared.Turn.TheVariants.{FlipX, Half}
use Rattle.bk_word.proofs.WordExamples.{move, two}
use Rattle.bk_word.specs.Word.{Move, Word}
use Rattle.bk_word.specs.declared.Class.{Class}
use Rattle.bk_word.specs.declared.Sign.TheVariants.{Above, Even, Under}
use Rattle.bk_catalogue.proofs.MoveCuts.CuttingBounds.{too_many_singles_is_barren, too_many_to_close_is_barren}
use Rattle.bk_catalogue.proofs.MoveCuts.CuttingFirst.{shorter_first_is_barren}
use Rattle.bk_catalogue.proofs.MoveCuts.CuttingLines.{too_many_lines_is_barren}
use Rattle.bk_catalogue.proofs.MoveCuts.CuttingPairs.{even_squares_are_barren}
use Rattle.bk_catalogue.specs.CanonicalCorners.{IsTopLeft, TurnsTopLeft}
use Rattle.bk_catalogue.specs.Cuts.{IsBarren}
use Rattle.bk_catalogue.proofs.MoveCuts.OneUnderOne.{one_under_one_is_barren}

-- after 2u the valley has one square, and 1e hangs one under it: the two would be a part
pair_barren : (n : ℕ) (class : Class) → IsBarren n class (record { count = 2; signs = Under ∷ [] } ∷ record { count = 1; signs = Even ∷ [] } ∷ [])
pair_barren n class = one_under_one_is_barren n class (record { count = 2; signs = Under ∷ [] } ∷ []) (record { count = 1; signs = Even ∷ [] }) refl refl

-- 2a hangs the shorter square at the left
shorter_barren : (n : ℕ) (class : Class) → IsBarren n class (record { count = 2; signs = Above ∷ [] } ∷ [])
shorter_barren n class = shorter_first_is_barren n class

-- 2e hangs two squares of one side, which are a part where there is a third
abbrev two_even : Move
two_even = record { count = 2; signs = Even ∷ [] }

even_barren : (n : ℕ) (class : Class) → 3 ≤ n → IsBarren n class (two_even ∷ [])
even_barren n class many = even_squares_are_barren n class [] two_even (inr many) (0, omega arith, refl)

-- stairs down to the right: all but the last of 4 squares must be closed, and just 2 are left
to_close : (class : Class) → IsBarren 6 class (move 4 (Above ∷ Above ∷ Above ∷ []) ∷ [])
to_close class = too_many_to_close_is_barren 6 class (move 4 (Above ∷ Above ∷ Above ∷ []) ∷ []) (lit< tt)

abbrev two_moves : Word
two_moves = two Under ∷ move 2 (Above ∷ Above ∷ []) ∷ []

-- after 2u.2aa the first two of three segments must be closed, and two squares are left, but the first is a valley of one square
with_singles : (class : Class) → IsBarren 6 class two_moves
with_singles class = too_many_singles_is_barren 6 class two_moves (lit≤ tt) (lit< tt)

abbrev cut_in_two : Word
cut_in_two = two Under ∷ move 1 (Even ∷ []) ∷ []

-- after 2u.1e one segment is left, but the line between the first two squares runs down to it
with_lines : (class : Class) → IsBarren 3 class cut_in_two
with_lines class = too_many_lines_is_barren 3 class cut_in_two (lit≤ tt) (lit< tt)

-- in the rectangle 69x61 the square of side 36 is the top left one, and that of side 33 comes there where left and right are exchanged
top_left : IsTopLeft rectangle_69x61 (square_at 0 0 36)
top_left = record { is = inl refl; x = refl; y = refl }

comes_there : TurnsTopLeft FlipX rectangle_69x61 (square_at 36 0 33)
comes_there = record { is = inr (inl refl); x = refl; y = refl }

-- it doesn't where above and below are exchanged too
comes_not : TurnsTopLeft Half rectangle_69x61 (square_at 36 0 33) → ⊥
comes_not turns = omega (arith, turns.y)
