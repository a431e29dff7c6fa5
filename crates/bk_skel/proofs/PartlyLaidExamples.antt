-- How 2u.2eu.1e is placed, the word of the 8 by 5 rectangle of the sides 5, 3, 2, 1 and 1: the squares that are laid after two moves,
-- and the third move.
use Rattle.std.proofs.Common.{List, [], arith, inl, refl, take, ◌++◌, ◌∷◌, ◌≡◌}
use Rattle.bk_tiling.specs.SquareGroups.{laid_group}
use Rattle.bk_tiling.specs.declared.Segment.{Segment}
use Rattle.bk_tiling.specs.declared.Square.{Square}
use Rattle.bk_word.proofs.WordExamples.{staircase}
use Rattle.bk_word.specs.Play.{outline_of}
use Rattle.bk_word.specs.declared.Sign.TheVariants.{Even}
use Rattle.bk_lay.proofs.WordTest.{passes_as_valley, passes_as_valley_by_tests}
use Rattle.bk_word_net.specs.LaidOutline.{FillsValley, StandsOver, back_of, bottom_at, front_of, square_at}
use Rattle.bk_skel.specs.PartlyLaid.{columns_of}

abbrev laid : List Square
laid = laid_group 0 0 (5 ∷ 3 ∷ []) ++ laid_group 5 3 (2 ∷ 1 ∷ [])

square_3 : square_at laid 3 ≡ record { x = 5; y = 3; s = 2 }
square_3 = refl

bottom_3 : bottom_at laid 3 ≡ 5
bottom_3 = refl

bottom_4 : bottom_at laid 4 ≡ 4
bottom_4 = refl

columns_1-3 : columns_of laid (1 ∷ 3 ∷ []) ≡ 7
columns_1-3 = refl

front : front_of (outline_of (take 2 staircase)) ≡ 1 ∷ 3 ∷ []
front = refl

back : back_of (outline_of (take 2 staircase)) ≡ []
back = refl

-- square 4 stands over the gap of one column at the right wall
abbrev gap : Segment
gap = record { x = 7; width = 1; level = 4 }

gap_4 : StandsOver 8 laid (4 ∷ []) gap
gap_4 = inl (record { x = 7; y = 3; s = 1 }, (3, refl, refl), refl, refl, refl)

-- a square of the side 1 fills it, and its bottom is even with that of square 3; one of the side 2 is too wide
fills_it : FillsValley 8 laid (record { count = 1; signs = Even ∷ [] }) (1 ∷ []) gap
fills_it = record {
  found = passes_as_valley _ _ _ (passes_as_valley_by_tests _ _ _ refl refl refl refl refl refl);
  count = refl;
  some = omega arith;
  positive = (omega arith, tt);
  fills = refl;
  signs = refl;
}

too_wide : ¬ (FillsValley 8 laid (record { count = 1; signs = Even ∷ [] }) (2 ∷ []) gap)
too_wide t = absurd (omega (arith, t.fills))
