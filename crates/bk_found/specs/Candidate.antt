-- The candidate of a word and a flow of its net: squares that are placed by potentials and lines. Of a signed word of a
-- tiling it is this tiling in lowest terms. A statement alone; it is proved apart.
-- Example (CandidateExamples): 2u.1e with the currents 2, 1, 1 gives the rectangle 3x2 of squares 2, 1, 1; and
-- 2a.1a.2ue.1e with 4, 7, 4, 5, -1, 6 the rectangle 11x13 of the sides 4, 7, 4, 5, 1, 6, in which the square of side 1
-- stands reversed.
use Rattle.std.specs.List.{AllByRecursion}
use Rattle.std.specs.Prelude.{List, [], false, length, map, nat_abs, negsuc, pos, slice_index_or, suc, zero, ℕ, ℤ, ◌++◌}
use Rattle.std.specs.Prelude.{◌+ℤ◌, ◌-ℤ◌, ◌∷◌, ◌≡◌, ◌≢◌, ◌≤ℤ◌}
use Rattle.bk_tiling.specs.CodeOrder.{in_code_order}
use Rattle.bk_tiling.specs.Scale.{IsPrimitiveTiling}
use Rattle.bk_tiling.specs.Tiling.{IsTiling, Tiles, Tiling, whole}
use Rattle.bk_tiling.specs.declared.Square.{Square}
use Rattle.bk_net.specs.Flow.{Flow, IsFlow, IsPrimitive, potential}
use Rattle.bk_net.specs.Net.{last_node}
use Rattle.bk_word.specs.Play.{numbers_from}
use Rattle.bk_word.specs.Word.{Word}
use Rattle.bk_word_net.specs.WordNet.{net_of_word}
use Rattle.bk_layout.specs.LineNumbers.{square_lines}
use Rattle.bk_layout.specs.SignedFlow.{signed_flow}
use Rattle.bk_layout.specs.SignedWord.{IsSignedWordOf}

-- the place of a line by its number: the walls stand at 0 and at the total, the line behind the square at place k where
-- it ends
abbrev pub line_place : ℤ → List ℤ → ℕ → ℤ
line_place total rights zero = pos 0
line_place total rights (suc zero) = total
line_place total rights (suc (suc k)) = slice_index_or rights k (pos 0)

-- where squares end, those of some more added: each stands as far behind its left line as its current says
abbrev pub right_edges_from : ℤ → List ℤ → List (ℕ × ℕ) → List ℤ → List ℤ
right_edges_from total rights [] currents = rights
right_edges_from total rights (s ∷ sides) [] = rights
right_edges_from total rights (s ∷ sides) (c ∷ currents) = right_edges_from total
    (rights ++ (line_place total rights s.0 +ℤ c) ∷ []) sides currents

abbrev pub right_edges : Word → Flow → List ℤ
right_edges w f = right_edges_from f.total [] (square_lines w) f.currents

-- how far the potential of a node lies under that of the first
abbrev pub level_in : Flow → ℕ → ℤ
level_in f v = potential f 0 -ℤ potential f v

-- the square between these lines and these levels; where its current is negative it stands reversed, at the line at its
-- right and under the node below
abbrev pub placed_square : (left right above below current : ℤ) → Square
placed_square left right above below (pos s) = record { x = nat_abs left; y = nat_abs above; s = s }
placed_square left right above below (negsuc s) = record { x = nat_abs right; y = nat_abs below; s = suc s }

-- the square at a place of the word
abbrev pub candidate_square : Word → Flow → ℕ → Square
candidate_square w f k = placed_square
    (line_place f.total (right_edges w f) (slice_index_or (square_lines w) k (0, 1)).0)
    (slice_index_or (right_edges w f) k (pos 0))
    (level_in f (slice_index_or (net_of_word w).wires k (0, 0)).0)
    (level_in f (slice_index_or (net_of_word w).wires k (0, 0)).1)
    (slice_index_or f.currents k (pos 0))

abbrev pub candidate_squares : Word → Flow → List Square
candidate_squares w f = map (candidate_square w f) (numbers_from 0 (length f.currents))

-- the candidate is the tiling: its size, and its squares in another order. The currents are its sides, negative where
-- the word has a square reversed: so none is 0, and all are positive where no square is
pub record IsCandidateOf (t : Tiling) (w : Word) (s : IsSignedWordOf t w) (f : Flow) : Type 0 where
  pub width : f.total ≡ pos t.width
  pub height : level_in f (last_node (net_of_word w)) ≡ pos t.height
  pub currents : f.currents ≡ (signed_flow t w s).currents
  pub some : AllByRecursion (λ c. c ≢ pos 0) f.currents
  pub positive : ((q : ℕ) → s.is_reversed q ≡ false) → AllByRecursion (λ c. pos 1 ≤ℤ c) f.currents
  pub tiles : Tiles (whole t) (candidate_squares w f)
  pub squares : in_code_order (candidate_squares w f) ≡ t.squares

-- the candidate of a signed word of a tiling in lowest terms, by a flow of the word's net in lowest terms, is the
-- tiling
abbrev pub TheCandidateIsTheTiling : Type 0
TheCandidateIsTheTiling = (t : Tiling) (w : Word) (f : Flow) → IsTiling t → IsPrimitiveTiling t
    → (s : IsSignedWordOf t w)
    → IsFlow (net_of_word w) f → pos 1 ≤ℤ f.total → IsPrimitive f → IsCandidateOf t w s f
