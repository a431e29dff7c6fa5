-- What a search for the words of normal layouts may pass over. Each cut is one law that ends in `IsNormalBarren`.
-- Statements alone; each is proved apart.
-- Example (NormalExamples): no word of a normal layout of five squares begins with 2u.2ua.
use Rattle.std.specs.List.{AllByRecursion, list_any}
use Rattle.std.specs.Prelude.{Bool, List, [], cond, length, max, nat_le, nat_lt, ℕ, ◌/◌, ◌⊎◌, ◌||◌, ◌*◌, ◌++◌, ◌+◌, ◌-◌}
use Rattle.std.specs.Prelude.{◌<◌, ◌∷◌, ◌≡◌, ◌≤◌}
use Rattle.bk_simple.specs.Simple.{IsSimple}
use Rattle.bk_tiling.specs.Tiling.{IsTiling, Tiling, order}
use Rattle.bk_word.specs.Play.{outline_of}
use Rattle.bk_word.specs.Word.{Word, order_of}
use Rattle.bk_layout.specs.Layout.{Layout}
use Rattle.bk_layout.specs.LayoutLaws.{IsWordOfLayout}
use Rattle.bk_layout.specs.Normal.{IsNormal, counts_of}
use Rattle.bk_catalogue.specs.VerticalCut.{line_bound_of, next_on_line, on_line}
use Rattle.bk_layout.specs.FreeCuts.{IsSound}
use Rattle.bk_layout.specs.RuleR.{BeginsNoEvenAbove}
use Rattle.bk_layout.specs.SignedWord.{IsSignedWordOf}
use Rattle.bk_layout.specs.NetWord.{IsNetBarren}
use Rattle.bk_layout.specs.NormalLayout.{IsNormalLayout}
use Rattle.bk_layout.specs.WordNumbers.{counts_of_word, first_count, left_squares, right_squares}

-- normal barren: no word of a sound and normal layout of so many squares that keeps rule R begins with these moves
abbrev pub IsNormalBarren : ℕ → Word → Type 0
IsNormalBarren n front = (l : Layout) (w rest : Word) → IsSound n l → IsNormalLayout l → IsWordOfLayout l w
    → AllByRecursion BeginsNoEvenAbove w
    → w ≡ front ++ rest → ⊥

-- net barren moves are normal barren, so each cut on net words is one on the words of normal layouts
abbrev pub ANetBarrenWordIsNormalBarren : Type 0
ANetBarrenWordIsNormalBarren = (n : ℕ) (front : Word) → IsNetBarren n front → IsNormalBarren n front

-- a signed word of a tiling that keeps rule R, with the tiling's counts, and of which no beginning is barren
pub record IsNormalWordOf (t : Tiling) (w : Word) : Type 0 where
  pub signed : IsSignedWordOf t w
  pub keeps : AllByRecursion BeginsNoEvenAbove w
  pub counts : counts_of_word w ≡ counts_of t
  pub no_barren : (front rest : Word) → w ≡ front ++ rest → IsNormalBarren (order t) front → ⊥

-- a normal and simple tiling of at least 3 squares has a normal word
abbrev pub ANormalTilingHasANormalWord : Type 0
ANormalTilingHasANormalWord = (t : Tiling) → IsTiling t → IsSimple t → 3 ≤ order t → IsNormal t
    → (w : Word) × IsNormalWordOf t w

-- ---- the cuts

-- a word of a normal layout that begins with these moves has at most so many: at most half of n + 1, and one less than
-- just half where more squares stand at a wall already than hang from the top
abbrev pub AreMostMoves : ℕ → Word → ℕ → Type 0
AreMostMoves n front most = (n ≤ 2 * most)
    ⊎ ((n ≤ 2 * most + 1) × (first_count front < max (left_squares front) (right_squares front)))

-- the least number that bounds the moves of a word of a normal layout which begins with these, but for more squares
-- that are still to come at a wall
abbrev pub most_moves_of : ℕ → Word → ℕ
most_moves_of n front = cond (nat_lt (first_count front) (max (left_squares front) (right_squares front))) (n / 2)
    ((n + 1) / 2)

abbrev pub MostMovesAreMost : Type 0
MostMovesAreMost = (n : ℕ) (front : Word) → AreMostMoves n front (most_moves_of n front)

-- moves after which fewer moves are left than segments that must be closed, with those on which lines from the top end
abbrev pub TooFewMovesIsNormalBarren : Type 0
TooFewMovesIsNormalBarren = (n most : ℕ) (front : Word) → 3 ≤ n → AreMostMoves n front most
    → most < length front + line_bound_of front → IsNormalBarren n front

-- moves after which more squares and segments are left than the moves that are left can take: a move takes three at
-- most, and two at a wall; and some moves at the right wall must come, where more squares stand at the left wall
abbrev pub TooManySquaresIsNormalBarren : Type 0
TooManySquaresIsNormalBarren = (n most : ℕ) (front : Word) → AreMostMoves n front most
    → order_of front + 3 * most + 1 < n + 3 * length front + length (outline_of front).segments +
    (left_squares front - right_squares front)
    → IsNormalBarren n front

-- of each segment whether a line from the top touches it, or it has at least as many squares as said
abbrev pub touched_or_wide : ℕ → List Bool → List (List ℕ) → List Bool
touched_or_wide top lines [] = []
touched_or_wide top lines (segment ∷ segments) =
    ((list_any (on_line lines) segment || next_on_line lines segments) || nat_le top
    (length segment)) ∷ touched_or_wide top lines segments
