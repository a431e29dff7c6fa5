-- What a tiling's word says of its sides: forms of the same word have the values that the tiling has.
-- Example (SideFormExamples): the rectangle 33x32 is laid by 2u.2aa with the sides 18, 15, 7, 8. There 15 is 7 + 8, and
-- 2aa says that 18 is less than 22 and 22 less than 23; with the sign even first it would not agree.
use Rattle.std.specs.List.{AllByRecursion, AllZip}
use Rattle.std.specs.Prelude.{List, Some, [], length, pos, slice_get, slice_index_or, suc, ℕ, ◌++◌, ◌+◌, ◌<◌, ◌∷◌, ◌≡◌}
use Rattle.std.specs.Prelude.{◌≢◌, ◌≤◌}
use Rattle.bk_tiling.specs.declared.Segment.{Segment}
use Rattle.bk_tiling.specs.declared.Square.{Square}
use Rattle.bk_tiling.specs.Tiling.{IsTiling, Tiling}
use Rattle.bk_word.specs.Outline.{Outline, valley_of}
use Rattle.bk_word.specs.Play.{new_squares, outline_of}
use Rattle.bk_word.specs.Word.{Move, Word}
use Rattle.bk_word.specs.declared.Sign.{Sign}
use Rattle.bk_lay.specs.TilingWord.{IsLeftmostValley, move_under, squares_under}
use Rattle.bk_forms.specs.Form.{Form, form_value}
use Rattle.bk_forms.specs.FormLaws.{Compares, MeetsEquations}
use Rattle.bk_forms.specs.declared.form.TheConstants.{MOST_SIDES}
use Rattle.bk_walk_cuts.specs.SideForms.{levels_along, new_bottoms, sum_of_sides, zero_form}

-- once some squares are laid, the moves lay more, each under the leftmost valley, and then these are laid
abbrev pub LaidBy : Tiling → List Square → Word → List Square → Type 0
LaidBy t laid [] laid_then = laid ≡ laid_then
LaidBy t laid (m ∷ moves) laid_then = (v : Segment) × IsLeftmostValley t.width laid v × (v.level < t.height)
    × (m ≡ move_under t laid v) × LaidBy t (laid ++ squares_under t v) moves laid_then

-- sixteen positive numbers, the first of which are the sides of the laid squares in order
pub record AreSidesOf (laid : List Square) (sides : List ℕ) : Type 0 where
  pub few : length laid ≤ MOST_SIDES
  pub long : length sides ≡ MOST_SIDES
  pub positive : AllByRecursion (λ s. 0 < s) sides
  pub each : (k : ℕ) (q : Square) → slice_get laid k ≡ Some q → slice_index_or sides k 0 ≡ q.s

-- at these sides the form is the level of the square's bottom
pub record IsBottomOf (sides : List ℕ) (form : Form) (q : Square) : Type 0 where
  pub long : length form ≡ MOST_SIDES
  pub level : form_value form sides ≡ pos (q.y + q.s)

-- the sides meet the equations, and the forms are the levels of the bottoms of the laid squares
pub record HoldFor (laid : List Square) (sides : List ℕ) (kept bottoms : List Form) : Type 0 where
  pub equations : MeetsEquations MOST_SIDES kept sides
  pub levels : AllZip (IsBottomOf sides) bottoms laid

-- equations and levels that hold for each tiling whose word begins with the moves
abbrev pub HoldAfter : Word → List Form → List Form → Type 0
HoldAfter front kept bottoms = (t : Tiling) (laid : List Square) (sides : List ℕ) → IsTiling t → LaidBy t [] front laid
    → AreSidesOf laid sides → HoldFor laid sides kept bottoms

-- each sign compares the values of the two forms beside it
abbrev pub AgreeWith : List Sign → List Form → List ℕ → Type 0
AgreeWith signs levels sides = (i : ℕ) (sign : Sign) → slice_get signs i ≡ Some sign
    → Compares sign (form_value (slice_index_or levels i zero_form) sides)
    (form_value (slice_index_or levels (suc i) zero_form) sides)

-- what holds of the sides of the squares that a move closes and hangs: where the valley has squares, their sides sum
-- to as much as those of the new ones; the signs compare the levels beside them; and the new forms are the levels of
-- the new bottoms
pub record MoveHolds (o : Outline) (m : Move) (bottoms : List Form) (laid : List Square) (sides : List ℕ) : Type 0 where
  pub widths : valley_of o ≢ []
      → form_value (sum_of_sides (valley_of o)) sides ≡ form_value (sum_of_sides (new_squares o m)) sides
  pub signs : AgreeWith m.signs (levels_along o m bottoms) sides
  pub bottoms_then : AllZip (IsBottomOf sides) (bottoms ++ new_bottoms o m bottoms) laid

-- what is asked of the sides of a move's squares holds for each tiling whose word goes on by the move
abbrev pub MovesHold : Type 0
MovesHold = (front : Word) (m : Move) (bottoms : List Form) (t : Tiling) (laid laid_then : List Square) (sides : List ℕ)
    → IsTiling t → LaidBy t [] front laid → LaidBy t laid (m ∷ []) laid_then → AreSidesOf laid_then sides
    → AllZip (IsBottomOf sides) bottoms laid → MoveHolds (outline_of front) m bottoms laid_then sides

-- the sides meet what is kept, and what a move after a word asks, which compares these levels
pub record MeetsMove (w : Word) (m : Move) (kept levels : List Form) (sides : List ℕ) : Type 0 where
  pub meets : MeetsEquations MOST_SIDES kept sides
  pub widths : valley_of (outline_of w) ≢ [] → form_value (sum_of_sides (valley_of (outline_of w))) sides
      ≡ form_value (sum_of_sides (new_squares (outline_of w) m)) sides
  pub signs : AgreeWith m.signs levels sides
