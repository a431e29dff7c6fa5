-- Net words: the words that a search by nets has to meet. Each simple tiling of at least 3 squares has one, and a
-- search may pass over whatever no net word begins with. Statements alone; each is proved apart.
-- Example (NetWordExamples): the rectangle 11x13 of the sides 4, 7, 4, 5, 1, 6 has the word 2a.1u.2ea.1e, which breaks
-- rule R, and the signed word 2a.1a.2ue.1e, which keeps it. That is no net word, since what begins with 2a.1a is
-- barren: one square hangs under one. The rectangle is compound.
use Rattle.std.specs.List.{AllByRecursion}
use Rattle.std.specs.Prelude.{[], ℕ, ◌++◌, ◌∷◌, ◌≡◌, ◌≤◌}
use Rattle.bk_simple.specs.Simple.{IsSimple}
use Rattle.bk_tiling.specs.Tiling.{IsTiling, Tiling, order}
use Rattle.bk_word.specs.Word.{Move, Word}
use Rattle.bk_layout.specs.Layout.{Layout}
use Rattle.bk_layout.specs.LayoutLaws.{IsWordOfLayout}
use Rattle.bk_layout.specs.FreeCuts.{IsFreeBarren, IsSound}
use Rattle.bk_layout.specs.RuleR.{BeginsNoEvenAbove}
use Rattle.bk_layout.specs.SignedWord.{IsSignedWordOf}

-- net barren: no word of a sound layout of so many squares that keeps rule R begins with these moves
abbrev pub IsNetBarren : ℕ → Word → Type 0
IsNetBarren n front = (l : Layout) (w rest : Word) → IsSound n l → IsWordOfLayout l w
    → AllByRecursion BeginsNoEvenAbove w → w ≡ front ++ rest → ⊥

-- free barren moves are net barren, so each cut on free words is one on net words
abbrev pub AFreeBarrenWordIsNetBarren : Type 0
AFreeBarrenWordIsNetBarren = (n : ℕ) (front : Word) → IsFreeBarren n front → IsNetBarren n front

-- moves that end with one of two squares or more, begun with even and above, are net barren
abbrev pub EvenThenAboveIsNetBarren : Type 0
EvenThenAboveIsNetBarren = (n : ℕ) (front : Word) (m : Move) → (BeginsNoEvenAbove m → ⊥)
    → IsNetBarren n (front ++ m ∷ [])

-- a net word of a tiling: a signed word that keeps rule R, and of which no beginning is barren
pub record IsNetWordOf (t : Tiling) (w : Word) : Type 0 where
  pub signed : IsSignedWordOf t w
  pub keeps : AllByRecursion BeginsNoEvenAbove w
  pub no_barren : (front rest : Word) → w ≡ front ++ rest → IsNetBarren (order t) front → ⊥

abbrev pub ASimpleTilingHasANetWord : Type 0
ASimpleTilingHasANetWord = (t : Tiling) → IsTiling t → IsSimple t → 3 ≤ order t → (w : Word) × IsNetWordOf t w
