-- Candidates: of a word without a reversed square, and of one with a reversed square.
use Rattle.std.specs.Prelude.{[], negsuc, pos, refl, ◌∷◌, ◌≡◌}
use Rattle.bk_net.specs.Flow.{Flow}
use Rattle.bk_word.specs.Word.{Word}
use Rattle.bk_word.specs.declared.Sign.TheVariants.{Above, Even, Under}
use Rattle.bk_word_net.specs.WordNet.{net_of_word}
use Rattle.bk_found.specs.Candidate.{candidate_squares, right_edges}

-- 2u.1e: the rectangle 3x2 of squares 2, 1, 1
abbrev word_3x2 : Word
word_3x2 = record { count = 2; signs = Under ∷ [] } ∷ record { count = 1; signs = Even ∷ [] } ∷ []

abbrev flow_3x2 : Flow
flow_3x2 = record { total = pos 3; potentials = pos 2 ∷ pos 1 ∷ pos 0 ∷ []; currents = pos 2 ∷ pos 1 ∷ pos 1 ∷ [] }

candidate_3x2 : candidate_squares word_3x2 flow_3x2 ≡ record { x = 0; y = 0; s = 2 } ∷ record { x = 2; y = 0; s = 1 } ∷ record { x = 2; y = 1; s = 1 } ∷ []
candidate_3x2 = refl

-- 2a.1a.2ue.1e: the square at place 4 hangs from node 2 and ends on node 3, but node 3 lies higher, so its current is -1. In the
-- rectangle 11x13 it stands reversed, with its right edge at its left line
abbrev word_11x13 : Word
word_11x13 = record { count = 2; signs = Above ∷ [] } ∷ record { count = 1; signs = Above ∷ [] } ∷ record { count = 2; signs = Under ∷ Even ∷ [] } ∷
    record { count = 1; signs = Even ∷ [] } ∷ []

net_11x13 : net_of_word word_11x13 ≡ record { nodes = 5; wires = (0, 1) ∷ (0, 3) ∷ (1, 2) ∷ (2, 4) ∷ (2, 3) ∷ (3, 4) ∷ [] }
net_11x13 = refl

abbrev flow_11x13 : Flow
flow_11x13 = record {
  total = pos 11;
  potentials = pos 13 ∷ pos 9 ∷ pos 5 ∷ pos 6 ∷ pos 0 ∷ [];
  currents = pos 4 ∷ pos 7 ∷ pos 4 ∷ pos 5 ∷ negsuc 0 ∷ pos 6 ∷ [];
}

edges_11x13 : right_edges word_11x13 flow_11x13 ≡ pos 4 ∷ pos 11 ∷ pos 4 ∷ pos 5 ∷ pos 4 ∷ pos 11 ∷ []
edges_11x13 = refl

candidate_11x13 : candidate_squares word_11x13 flow_11x13
    ≡ record { x = 0; y = 0; s = 4 } ∷ record { x = 4; y = 0; s = 7 } ∷ record { x = 0; y = 4; s = 4 } ∷ record { x = 0; y = 8; s = 5 } ∷ record
    { x = 4; y = 7; s = 1 } ∷ record { x = 5; y = 7; s = 6 } ∷ []
candidate_11x13 = refl
