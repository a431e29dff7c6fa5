-- The sides of a tiling, in the order of a signed word's squares and negative where a square is reversed, are the one
-- flow of the word's net. Statements alone; they are proved apart.
-- Example (SignedWordExamples): of the squares 2, 1, 1 with the first reversed the signed sides are -2, 1, 1.
use Rattle.std.specs.Prelude.{Bool, cond, map, neg_ℤ, pos, slice_index_or, ℕ, ℤ, ◌-ℤ◌}
use Rattle.bk_tiling.specs.Tiling.{IsTiling, Tiling, order, square_of}
use Rattle.bk_net.specs.Diagram.{node_levels}
use Rattle.bk_net.specs.Flow.{Flow, IsOneFlow}
use Rattle.bk_word.specs.Play.{numbers_from}
use Rattle.bk_word.specs.Word.{Word}
use Rattle.bk_word_net.specs.WordNet.{net_of_word}
use Rattle.bk_layout.specs.SignedWord.{IsSignedWordOf}

-- the side, negative where the square is reversed
abbrev pub signed_side : Tiling → (ℕ → Bool) → ℕ → ℤ
signed_side t is_reversed q = cond (is_reversed q) (neg_ℤ (pos (square_of t q).s)) (pos (square_of t q).s)

-- the width as the total, the height left under the level of each node, and the signed side of each square
abbrev pub signed_flow : (t : Tiling) (w : Word) → IsSignedWordOf t w → Flow
signed_flow t w s = record {
  total = pos t.width;
  potentials = map (λ v. pos t.height -ℤ pos (slice_index_or (node_levels t) (s.node v) 0))
      (numbers_from 0 (net_of_word w).nodes);
  currents = map (λ k. signed_side t s.is_reversed (s.square k)) (numbers_from 0 (order t));
}

abbrev pub SignedSidesAreTheOneFlow : Type 0
SignedSidesAreTheOneFlow = (t : Tiling) (w : Word) → IsTiling t → (s : IsSignedWordOf t w)
    → IsOneFlow (net_of_word w) (signed_flow t w s)

-- the node of the word from which the tiling's square hangs: of a reversed square it is that at which the word's square
-- ends
abbrev pub upper_end : Word → Bool → ℕ → ℕ
upper_end w is_reversed k = cond is_reversed (slice_index_or (net_of_word w).wires k (0, 0)).1
    (slice_index_or (net_of_word w).wires k (0, 0)).0
