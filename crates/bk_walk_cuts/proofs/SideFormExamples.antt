-- The forms along the first two moves of 2u.2aa.2ue.2eue.1e, the word of the rectangle 33x32, and their values at its sides; and moves that
-- no perfect tiling's word begins with.
use Rattle.std.specs.List.{AllZip}
use Rattle.std.specs.Prelude.{pos, ℤ}
use Rattle.std.proofs.Common.{List, Some, [], arith, false, length, lit<, lit≤, refl, replicate, subst, suc, true, zero, ℕ, ◌++◌, ◌-◌}
use Rattle.std.proofs.Common.{◌∷◌, ◌≡◌}
use Rattle.std.proofs.lemmas.Int.{ints}
use Rattle.bk_tiling.proofs.ExampleTilings.{rectangle_33x32, square_at}
use Rattle.bk_tiling.proofs.TilingTest.{tiling_from_test}
use Rattle.bk_tiling.specs.declared.Square.{Square}
use Rattle.bk_word.proofs.WordExamples.{move, two}
use Rattle.bk_word.specs.Outline.{start}
use Rattle.bk_word.specs.Play.{outline_of}
use Rattle.bk_word.specs.Word.{Move}
use Rattle.bk_word.specs.declared.Class.TheVariants.{Imperfect, Perfect}
use Rattle.bk_word.specs.declared.Sign.{Sign}
use Rattle.bk_word.specs.declared.Sign.TheVariants.{Above, Even, Under}
use Rattle.bk_lay.proofs.WordTest.{passes_as_valley, passes_as_valley_by_tests}
use Rattle.bk_forms.specs.Form.{Form}
use Rattle.bk_forms.specs.FormLaws.{Compares}
use Rattle.bk_catalogue.proofs.Members.TwoSquares.{row_of_two}
use Rattle.bk_catalogue.specs.Cuts.{IsBarren}
use Rattle.bk_walk_cuts.proofs.Asked.{equal_sides}
use Rattle.bk_walk_cuts.proofs.RuledOut.{ruled_out, ruled_out_is_barren}
use Rattle.bk_walk_cuts.specs.SideForms.{brings_more, level_of, levels_along, new_bottoms, sum_of_sides, zero_form}
use Rattle.bk_walk_cuts.specs.SidesOfTilings.{AgreeWith, HoldAfter, IsBottomOf, LaidBy, MoveHolds}
use Rattle.bk_walk_cuts.specs.Trace.{IsRuledOut}

-- the form with these first coefficients
abbrev pub form_of : List ℤ → Form
form_of coefficients = coefficients ++ replicate (16 - length coefficients) (pos 0)

abbrev first : Move
first = two Under

abbrev second : Move
second = move 2 (Above ∷ Above ∷ [])

-- ---- forms

-- the squares that hang from the top end at their own sides, here called a and b
abbrev first_bottoms : List Form
first_bottoms = form_of (pos 1 ∷ []) ∷ form_of (pos 0 ∷ pos 1 ∷ []) ∷ []

bottoms_of_first : new_bottoms start first [] ≡ first_bottoms
bottoms_of_first = refl

-- under the square of side b hang squares of sides c and d: they end at b + c and b + d
abbrev second_bottoms : List Form
second_bottoms = form_of (pos 0 ∷ pos 1 ∷ pos 1 ∷ []) ∷ form_of (pos 0 ∷ pos 1 ∷ pos 0 ∷ pos 1 ∷ []) ∷ []

bottoms_of_second : new_bottoms (outline_of (first ∷ [])) second first_bottoms ≡ second_bottoms
bottoms_of_second = refl

-- at the left of the valley stands the bottom of the first square, at its right a wall
levels_of_second : levels_along (outline_of (first ∷ [])) second first_bottoms ≡ form_of (pos 1 ∷ []) ∷ second_bottoms
levels_of_second = refl

sum_of_two : sum_of_sides (3 ∷ 4 ∷ []) ≡ form_of (pos 0 ∷ pos 0 ∷ pos 1 ∷ pos 1 ∷ [])
sum_of_two = refl

-- the level of a segment is that of its first square
level_of_two : level_of first_bottoms (2 ∷ 1 ∷ []) ≡ form_of (pos 0 ∷ pos 1 ∷ [])
level_of_two = refl

top_level : level_of first_bottoms [] ≡ zero_form
top_level = refl

-- 1e brings two equations for one square, and 2ue two for two
last_brings_more : brings_more (move 1 (Even ∷ [])) ≡ true
last_brings_more = refl

third_brings_no_more : brings_more (move 2 (Under ∷ Even ∷ [])) ≡ false
third_brings_no_more = refl

-- ---- what the sides of the rectangle make of them

abbrev laid_four : List Square
laid_four = square_at 0 0 18 ∷ square_at 18 0 15 ∷ square_at 18 15 7 ∷ square_at 25 15 8 ∷ []

laid_by_two : LaidBy rectangle_33x32 [] (first ∷ second ∷ []) laid_four
laid_by_two = (
  record { x = 0; width = 33; level = 0 },
  passes_as_valley _ _ _ (passes_as_valley_by_tests _ _ _ refl refl refl refl refl refl),
  lit< tt,
  refl,
  (record { x = 18; width = 15; level = 15 }, passes_as_valley _ _ _ (passes_as_valley_by_tests _ _ _ refl refl refl refl refl refl), lit< tt, refl, refl),
)

-- of the squares that are not laid yet any sides will do
abbrev sides : List ℕ
sides = 18 ∷ 15 ∷ 7 ∷ 8 ∷ replicate 12 1

same_sign : {s sign : Sign} → Some s ≡ Some sign → s ≡ sign
same_sign e = cc

-- 18 is less than 22, and 22 less than 23
agree_with_sides : AgreeWith second.signs (form_of (pos 1 ∷ []) ∷ second_bottoms) sides
agree_with_sides zero sign e = subst (λ (s : Sign). Compares s (pos 18) (pos 22)) (same_sign e) (omega (arith, ints))
agree_with_sides (suc zero) sign e = subst (λ (s : Sign). Compares s (pos 22) (pos 23)) (same_sign e) (omega (arith, ints))
agree_with_sides (suc (suc i)) sign e = absurd (cc)

-- 18 is not 22
not_even : AgreeWith (Even ∷ Above ∷ []) (form_of (pos 1 ∷ []) ∷ second_bottoms) sides → ⊥
not_even agree = omega (arith, ints, agree zero Even refl)

-- the width of the valley is 15 = 7 + 8, and the new squares end at 15 + 7 and 15 + 8
second_holds : MoveHolds (outline_of (first ∷ [])) second first_bottoms laid_four sides
second_holds = record {
  widths = λ some. refl;
  signs = agree_with_sides;
  bottoms_then = (
    record { long = refl; level = refl },
    (record { long = refl; level = refl }, (record { long = refl; level = refl }, (record { long = refl; level = refl }, tt))),
  );
}

-- ---- moves that are ruled out

-- where no square is laid, no equation and no level of a bottom has to hold
pub nothing_holds : HoldAfter [] [] []
nothing_holds t laid sides tiling none are = record {
  equations = record { long = are.long; positive = are.positive; equations = tt };
  levels = subst (AllZip (IsBottomOf sides) []) none tt;
}

-- two squares that hang from the top and end level are equal
row_is_ruled_out : IsRuledOut Perfect (two Even ∷ [])
row_is_ruled_out = ruled_out [] (two Even) Perfect [] [] nothing_holds (lit≤ tt) (λ sides asked apart. apart refl 1 0 (lit< tt) (lit< tt)
    (equal_sides sides 1 0 (asked.meets).long (lit< tt) (lit< tt) (omega (arith, ints, asked.signs zero Even refl))))

-- so no perfect member's word begins so
row_is_barren : (n : ℕ) → IsBarren n Perfect (two Even ∷ [])
row_is_barren n = ruled_out_is_barren n Perfect (two Even ∷ []) row_is_ruled_out

-- but two equal squares side by side are a tiling with that word
row_is_imperfect : IsRuledOut Imperfect (two Even ∷ []) → ⊥
row_is_imperfect ruled = ruled row_of_two row_of_two.squares (tiling_from_test row_of_two refl) (λ e. absurd (cc)) (
  record { x = 0; width = 2; level = 0 },
  passes_as_valley _ _ _ (passes_as_valley_by_tests _ _ _ refl refl refl refl refl refl),
  lit< tt,
  refl,
  refl,
)
