-- What is laid of the rectangle 3x2 after its first move, the outline that depicts it, and which of two valleys is the first rise.
use Rattle.std.proofs.Common.{[], arith, lit<, lit≤, refl, suc, zero, ◌∷◌}
use Rattle.bk_tiling.proofs.ExampleTilings.{rectangle_3x2, square_at}
use Rattle.bk_tiling.proofs.TilingTest.{tiling_from_test}
use Rattle.bk_tiling.specs.Tiling.{IsTiling}
use Rattle.bk_tiling.specs.declared.Segment.{Segment}
use Rattle.bk_word.specs.Outline.{start}
use Rattle.bk_word.specs.declared.Sign.TheVariants.{Under}
use Rattle.bk_lay.proofs.Steps.{move_depicts, start_depicts_nothing}
use Rattle.bk_lay.proofs.WordTest.{passes_as_valley, passes_as_valley_by_tests}
use Rattle.bk_lay.proofs.Words.{nothing_laid}
use Rattle.bk_lay.specs.Depiction.{Depicts}
use Rattle.bk_lay.specs.WordLaws.{NeverDeeperBefore}

abbrev top : Segment
top = record { x = 0; width = 3; level = 0 }

tiling-3x2 : IsTiling rectangle_3x2
tiling-3x2 = tiling_from_test rectangle_3x2 refl

-- two squares hang from the top, the first of which ends deeper
after_one : Depicts rectangle_3x2 (square_at 0 0 2 ∷ square_at 2 0 1 ∷ []) (top ∷ [])
    (record { segments = (1 ∷ []) ∷ (2 ∷ []) ∷ []; signs = Under ∷ []; closed = [] ∷ []; hung = 0 ∷ 0 ∷ [] })
after_one = (move_depicts rectangle_3x2 [] [] start top tiling-3x2 (nothing_laid rectangle_3x2 tiling-3x2)
    (start_depicts_nothing rectangle_3x2 tiling-3x2) (passes_as_valley 3 [] top (passes_as_valley_by_tests _ _ _ refl refl refl refl refl refl)) (lit< tt)).1

-- under the squares 2 and 1 the columns 0 and 1 are filled to level 2, and column 2, the valley, to level 1
first_rise : NeverDeeperBefore (square_at 0 0 2 ∷ square_at 2 0 1 ∷ []) (record { x = 2; width = 1; level = 1 })
first_rise zero h = lit≤ tt
first_rise (suc zero) h = lit≤ tt
first_rise (suc (suc c)) h = absurd (omega (arith, h))

-- under the squares 1, 2 and 1 column 1 is deeper than column 0, so the valley in column 3 is not the first
later_rise : NeverDeeperBefore (square_at 0 0 1 ∷ square_at 1 0 2 ∷ square_at 3 0 1 ∷ []) (record { x = 3; width = 1; level = 1 }) → ⊥
later_rise never = omega (arith, never zero (lit≤ tt))
