-- The way back from a flow to a tiling: a flow of a complete word's net with currents of at least 1, whose bottoms
-- compare as the word's signs say, is a tiling that has this word. Statements alone; each is proved apart.
-- Example (WordNetExamples): 2u.1e is placed by the flow of the currents 2, 1, 1 with the potentials 2, 1, 0.
use Rattle.std.specs.List.{AllByRecursion}
use Rattle.std.specs.Prelude.{List, [], cond, map, nat_abs, pos, slice_index_or, ℕ, ⊤, ◌++◌, ◌+◌, ◌-ℤ◌, ◌-◌, ◌∷◌, ◌≡◌}
use Rattle.std.specs.Prelude.{◌≤ℤ◌}
use Rattle.bk_tiling.specs.Scale.{IsPrimitiveTiling}
use Rattle.bk_tiling.specs.Tiling.{IsTiling, Tiling}
use Rattle.bk_tiling.specs.declared.Square.{Square}
use Rattle.bk_net.specs.Flow.{Flow, IsFlow, IsPrimitive, potential}
use Rattle.bk_word.specs.Outline.{Outline, has_left_wall, has_right_wall, start, valley_place}
use Rattle.bk_word.specs.Play.{IsComplete, after_move, new_squares, outline_of}
use Rattle.bk_word.specs.Word.{Move, Word}
use Rattle.bk_lay.specs.TilingWord.{IsWordOf, signs_between}
use Rattle.bk_word_net.specs.WordFlow.{LaidAlong, laid_so_far}
use Rattle.bk_word_net.specs.WordNet.{end_of, net_of_word}

-- the level of square q's bottom, where the squares end at these nodes: how far the potential there lies under that
-- of the first node
abbrev pub bottom_in : Flow → List (List ℕ) → ℕ → ℕ
bottom_in f ends q = nat_abs (potential f 0 -ℤ potential f (end_of ends q))

-- the bottom of a segment's first square; the top has none
abbrev pub segment_bottom : (ℕ → ℕ) → List ℕ → ℕ
segment_bottom bottom [] = 0
segment_bottom bottom (q ∷ numbers) = bottom q

-- the bottoms that the signs of a move compare: of the segment left of the valley, of the new squares, and of the
-- segment right of it
abbrev pub bottoms_of_move : (ℕ → ℕ) → Outline → Move → List ℕ
bottoms_of_move bottom o m =
    cond (has_left_wall o) [] (segment_bottom bottom (slice_index_or o.segments (valley_place o.signs - 1) []) ∷ [])
    ++ map bottom (new_squares o m)
    ++ cond (has_right_wall o) []
    (segment_bottom bottom (slice_index_or o.segments (valley_place o.signs + 1) []) ∷ [])

-- the bottoms compare as the signs of these moves say
abbrev pub SignsCompare : (ℕ → ℕ) → Outline → Word → Type 0
SignsCompare bottom o [] = ⊤
SignsCompare bottom o (m ∷ w) =
    (m.signs ≡ signs_between (bottoms_of_move bottom o m)) × SignsCompare bottom (after_move o m) w

-- the flow places the squares of the word
pub record PlacesWord (w : Word) (f : Flow) : Type 0 where
  pub long : AllByRecursion (λ c. pos 1 ≤ℤ c) f.currents
  pub signs : SignsCompare (bottom_in f ((outline_of w).closed ++ (outline_of w).segments)) start w

-- a tiling of the word whose sides, in the order of laying, are the currents, and whose width is the total
pub record IsTilingByFlow (w : Word) (f : Flow) (t : Tiling) : Type 0 where
  pub tiling : IsTiling t
  pub word : IsWordOf t w
  pub laid : List Square
  pub levels : List ℕ
  pub along : LaidAlong t (laid_so_far [] []) w (laid_so_far laid levels)
  pub sides : map (λ q. pos q.s) laid ≡ f.currents
  pub width : pos t.width ≡ f.total

-- a flow that places the squares of a complete word is a tiling of this word
abbrev pub AFlowPlacesATiling : Type 0
AFlowPlacesATiling = (w : Word) (f : Flow) → IsComplete w → IsFlow (net_of_word w) f → PlacesWord w f
    → (t : Tiling) × IsTilingByFlow w f t

-- where a flow that places the squares of a complete word is primitive, so is the tiling
abbrev pub APrimitiveFlowIsAPrimitiveTiling : Type 0
APrimitiveFlowIsAPrimitiveTiling = (w : Word) (f : Flow) (t : Tiling) → IsComplete w → IsFlow (net_of_word w) f
    → IsPrimitive f → IsTilingByFlow w f t → IsPrimitiveTiling t

-- where a tiling has the word, each flow of its net places its squares
abbrev pub AWordOfATilingIsPlaced : Type 0
AWordOfATilingIsPlaced = (t : Tiling) (w : Word) (f : Flow) → IsTiling t → IsWordOf t w → IsFlow (net_of_word w) f
    → pos 1 ≤ℤ f.total → PlacesWord w f
