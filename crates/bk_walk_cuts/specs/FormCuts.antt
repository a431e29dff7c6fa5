-- When a ledger cuts a move: its equation of the widths or one of two levels contradicts those before, a sign is known
-- to be another, or two sides are known to be equal. A cut is stated over what is kept when it is asked: each equation
-- is added before the next one.
-- Example (CutExamples): where a = b is kept, the square a on the valley and the squares b and c hung under it
-- contradict it, since c would be 0.
use Rattle.std.specs.Prelude.{List, Option, None, Some, [], length, slice_get, slice_index_or, suc, zero, ℕ, ◌+◌, ◌<◌}
use Rattle.std.specs.Prelude.{◌∷◌, ◌≡◌, ◌≢◌, ◌⊎◌}
use Rattle.bk_word.specs.Outline.{Outline, valley_of}
use Rattle.bk_word.specs.Play.{new_squares, outline_of}
use Rattle.bk_word.specs.Word.{Move, Word, order_of}
use Rattle.bk_word.specs.declared.Class.{Class}
use Rattle.bk_word.specs.declared.Class.TheVariants.{Perfect}
use Rattle.bk_word.specs.declared.Sign.{Sign}
use Rattle.bk_word.specs.declared.Sign.TheVariants.{Above, Even, Under}
use Rattle.bk_forms.specs.Form.{Form}
use Rattle.bk_forms.specs.Reduction.{addition, comparison, contradiction, kept_after}
use Rattle.bk_walk_cuts.specs.KnownSides.{AreKnownEqual}
use Rattle.bk_walk_cuts.specs.SideForms.{levels_along, sum_of_sides, zero_form}

-- what is kept once the equation of the widths is added, where the valley has squares
abbrev pub kept_by_widths : List Form → List ℕ → List ℕ → List Form
kept_by_widths kept [] numbers = kept
kept_by_widths kept (n ∷ valley) numbers = kept_after kept
    (addition kept (sum_of_sides (n ∷ valley)) (sum_of_sides numbers))

-- what is kept once the equation of the levels beside a sign even is added
abbrev pub kept_by_sign : Option Sign → List Form → Form → Form → List Form
kept_by_sign None kept left right = kept
kept_by_sign (Some Above) kept left right = kept
kept_by_sign (Some Even) kept left right = kept_after kept (addition kept left right)
kept_by_sign (Some Under) kept left right = kept

-- what is kept once the equations of the first signs, one after another, are added
abbrev pub kept_by_signs : List Form → List Form → List Sign → ℕ → List Form
kept_by_signs kept levels signs zero = kept
kept_by_signs kept levels signs (suc k) = kept_by_sign (slice_get signs k) (kept_by_signs kept levels signs k)
    (slice_index_or levels k zero_form)
    (slice_index_or levels (suc k) zero_form)

-- the sum of the sides of the valley's squares can't be that of the new ones
pub record WidthsContradict (kept : List Form) (valley numbers : List ℕ) : Type 0 where
  pub some : valley ≢ []
  pub contradict : addition kept (sum_of_sides valley) (sum_of_sides numbers) ≡ contradiction

-- the levels beside a sign even can't be the same
pub record LevelsContradict (kept levels : List Form) (signs : List Sign) : Type 0 where
  pub place : ℕ
  pub even : slice_get signs place ≡ Some Even
  pub contradict : addition (kept_by_signs kept levels signs place) (slice_index_or levels place zero_form)
      (slice_index_or levels (suc place) zero_form) ≡ contradiction

-- the levels beside a sign above or under are known to compare otherwise
pub record SignIsOther (kept levels : List Form) (signs : List Sign) : Type 0 where
  pub place : ℕ
  pub sign : Sign
  pub known : Sign
  pub here : slice_get signs place ≡ Some sign
  pub uneven : sign ≢ Even
  pub compared : comparison kept (slice_index_or levels place zero_form) (slice_index_or levels (suc place) zero_form)
      ≡ Some known
  pub other : known ≢ sign

-- two of the first sides are known to be equal
pub record SidesAreEqual (kept : List Form) (count : ℕ) : Type 0 where
  pub first : ℕ
  pub second : ℕ
  pub order : first < second
  pub within : second < count
  pub equal : AreKnownEqual kept second first

-- what is kept once all equations of a move are added, which compares these levels
abbrev pub kept_with_move : Outline → Move → List Form → List Form → List Form
kept_with_move o m kept levels = kept_by_signs (kept_by_widths kept (valley_of o) (new_squares o m)) levels m.signs
    (length m.signs)

-- one of the four cuts a move after a word, in a class, by the levels that it compares
abbrev pub IsCutByLevels : Class → Word → Move → List Form → List Form → Type 0
IsCutByLevels class w m kept levels =
    WidthsContradict kept (valley_of (outline_of w)) (new_squares (outline_of w) m)
    ⊎ (LevelsContradict (kept_by_widths kept (valley_of (outline_of w)) (new_squares (outline_of w) m)) levels m.signs
    ⊎ (SignIsOther (kept_with_move (outline_of w) m kept levels) levels m.signs
    ⊎ ((class ≡ Perfect) × SidesAreEqual (kept_with_move (outline_of w) m kept levels) (order_of w + m.count))))

-- one of the four cuts a move after a word, in a class, by the bottoms
abbrev pub IsCutByForms : Class → Word → Move → List Form → List Form → Type 0
IsCutByForms class w m kept bottoms = IsCutByLevels class w m kept (levels_along (outline_of w) m bottoms)
