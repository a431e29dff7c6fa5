-- Rule R: no move beside a left neighbour, of two squares or more, begins with the signs even and above. Of all words
-- whose nets are one up to reversed squares, those that keep it are enough.
-- Example (RuleExamples): the free word 2a.2uu.2ea.2eue.1e of 33x32 breaks it; with the square of side 7 reversed the
-- layout has the word 2a.2ua.3euue.1e.1e.
use Rattle.std.specs.List.{AllByRecursion}
use Rattle.std.specs.Prelude.{Some, [], false, slice_get, ⊤, ◌<◌, ◌∷◌, ◌≡◌}
use Rattle.bk_word.specs.Outline.{Outline, has_left_wall, start}
use Rattle.bk_word.specs.Play.{after_move}
use Rattle.bk_word.specs.Word.{Move, Word}
use Rattle.bk_word.specs.declared.Sign.TheVariants.{Above, Even}
use Rattle.bk_layout.specs.Layout.{Fits, HasNoTwins, Layout}
use Rattle.bk_layout.specs.LayoutLaws.{IsWordOfLayout}
use Rattle.bk_layout.specs.Reversal.{IsUpToReversals}

-- no move of two squares or more that begins with even and above
abbrev pub BeginsNoEvenAbove : Move → Type 0
BeginsNoEvenAbove m = 1 < m.count → slice_get m.signs 0 ≡ Some Even → slice_get m.signs 1 ≡ Some Above → ⊥

-- beside a left neighbour no move of two squares or more begins with even and above. At the left wall a move's first
-- sign stands between two of its own squares, which are twins where it is even: so in a word of a layout without twins
-- no move at all begins with even and above
abbrev pub KeepsRuleR : Outline → Move → Type 0
KeepsRuleR o m = has_left_wall o ≡ false → BeginsNoEvenAbove m

abbrev pub KeepRuleRFrom : Outline → Word → Type 0
KeepRuleRFrom o [] = ⊤
KeepRuleRFrom o (m ∷ moves) = KeepsRuleR o m × KeepRuleRFrom (after_move o m) moves

-- the word keeps rule R. The first valley stands at the left wall, so the rule says nothing of the first move
abbrev pub DoesKeepRuleR : Word → Type 0
DoesKeepRuleR w = KeepRuleRFrom start w

-- a layout that is l up to reversals, and a free word of it that keeps the rule
pub record HasWordByRuleR (l : Layout) : Type 0 where
  pub layout : Layout
  pub fits : Fits layout
  pub same : IsUpToReversals l layout
  pub word : Word
  pub is_word : IsWordOfLayout layout word
  pub keeps : DoesKeepRuleR word
  pub no_twins : HasNoTwins l → HasNoTwins layout
  pub none : HasNoTwins l → AllByRecursion BeginsNoEvenAbove word

abbrev pub ALayoutHasAWordByRuleR : Type 0
ALayoutHasAWordByRuleR = (l : Layout) → Fits l → HasWordByRuleR l
