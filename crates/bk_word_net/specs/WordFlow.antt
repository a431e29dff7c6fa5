-- The way from a word to its one tiling: the sides in the order of laying are a flow of the word's own net, and with
-- the word they fix all places. Statements alone; each is proved apart.
-- Example (RealisedExamples of bk_skel): the squares of the rectangle 65x47 in the order in which its word lays them,
-- with the levels of the valleys that it fills.
use Rattle.std.specs.Prelude.{List, [], map, pos, ℕ, ◌*◌, ◌++◌, ◌-ℤ◌, ◌<◌, ◌∷◌, ◌≡◌, ◌≤ℤ◌}
use Rattle.bk_tiling.specs.declared.Segment.{Segment}
use Rattle.bk_tiling.specs.Scale.{AreAlike, IsPrimitiveTiling, enlarged}
use Rattle.bk_tiling.specs.Tiling.{IsTiling, Tiling}
use Rattle.bk_tiling.specs.declared.Square.{Square}
use Rattle.bk_net.specs.Flow.{Flow, IsFlow, IsOneFlow}
use Rattle.bk_net.specs.Net.{HasNoLoose, IsNet}
use Rattle.bk_word.specs.Play.{IsComplete}
use Rattle.bk_word.specs.Word.{Word}
use Rattle.bk_lay.specs.TilingWord.{IsLeftmostValley, IsWordOf, squares_under}
use Rattle.bk_word_net.specs.WordNet.{net_of_word}

-- squares that are laid one after another, and the levels of the valleys that they filled, in order
pub record LaidSoFar : Type 0 where
  pub squares : List Square
  pub levels : List ℕ

abbrev pub laid_so_far : List Square → List ℕ → LaidSoFar
laid_so_far squares levels = record { squares = squares; levels = levels }

-- from what is laid so far to all that the word lays, move by move; the last level is the height
abbrev pub LaidAlong : Tiling → LaidSoFar → Word → LaidSoFar → Type 0
LaidAlong t laid [] all = (laid.squares ≡ all.squares) × (laid.levels ++ t.height ∷ [] ≡ all.levels)
LaidAlong t laid (m ∷ moves) all = (v : Segment) × IsLeftmostValley t.width laid.squares v
    × LaidAlong t (laid_so_far (laid.squares ++ squares_under t v) (laid.levels ++ v.level ∷ [])) moves all

-- the flow of what is laid: the sides, with the height left under each node's level as its potential, and the width
-- as the total
abbrev pub laid_flow : Tiling → List Square → List ℕ → Flow
laid_flow t laid levels = record {
  total = pos t.width;
  potentials = map (λ l. pos t.height -ℤ pos l) levels;
  currents = map (λ q. pos q.s) laid;
}

-- the sides in the order of laying are a flow of the word's net
abbrev pub LaidSidesAreAFlow : Type 0
LaidSidesAreAFlow = (t : Tiling) (w : Word) (laid : List Square) (levels : List ℕ) → IsTiling t → IsWordOf t w
    → LaidAlong t (laid_so_far [] []) w (laid_so_far laid levels)
    → IsFlow (net_of_word w) (laid_flow t laid levels)

-- the net of a complete word is a net without a loose node
abbrev pub AWordNetHasNoLoose : Type 0
AWordNetHasNoLoose = (w : Word) → IsComplete w → IsNet (net_of_word w) × HasNoLoose (net_of_word w)

-- each flow of the net of a complete word, of a total of at least 1, is the net's one flow of its total
abbrev pub AWordHasOneFlow : Type 0
AWordHasOneFlow = (w : Word) (f : Flow) → IsComplete w → IsFlow (net_of_word w) f → pos 1 ≤ℤ f.total
    → IsOneFlow (net_of_word w) f

-- the word and the sides in the order of laying fix a tiling
abbrev pub LaidSidesFixATiling : Type 0
LaidSidesFixATiling = (t u : Tiling) (w : Word) (tl ul : List Square) (tv uv : List ℕ) (m n : ℕ) → IsTiling t
    → IsTiling u → 0 < m → 0 < n → IsWordOf t w → IsWordOf u w
    → LaidAlong t (laid_so_far [] []) w (laid_so_far tl tv) → LaidAlong u (laid_so_far [] []) w (laid_so_far ul uv)
    → map (λ q. m * q.s) tl ≡ map (λ q. n * q.s) ul
    → enlarged m t ≡ enlarged n u

-- two tilings of one word are equal up to scale
abbrev pub AWordHasOneTiling : Type 0
AWordHasOneTiling = (t u : Tiling) (w : Word) → IsTiling t → IsTiling u → IsWordOf t w → IsWordOf u w → AreAlike t u

-- each word has at most one primitive tiling
abbrev pub AWordHasOnePrimitiveTiling : Type 0
AWordHasOnePrimitiveTiling = (t u : Tiling) (w : Word) → IsTiling t → IsTiling u → IsPrimitiveTiling t
    → IsPrimitiveTiling u → IsWordOf t w → IsWordOf u w → t ≡ u
