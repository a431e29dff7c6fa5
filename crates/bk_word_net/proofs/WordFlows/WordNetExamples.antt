-- Nets of words, and the Smith diagrams of the tilings that have these words.
use Rattle.std.specs.Prelude.{[], pos, refl, ◌∷◌, ◌≡◌}
use Rattle.std.proofs.Common.{arith}
use Rattle.std.proofs.lemmas.Int.{ints}
use Rattle.bk_tiling.proofs.ExampleTilings.{rectangle_33x32}
use Rattle.bk_net.specs.Diagram.{smith_diagram}
use Rattle.bk_net.specs.Flow.{Flow}
use Rattle.bk_word.proofs.WordExamples.{move, word_33x32, word_65x47, word_of_four}
use Rattle.bk_word.specs.Word.{Word}
use Rattle.bk_word.specs.declared.Sign.TheVariants.{Even, Under}
use Rattle.bk_word_net.specs.FlowTiling.{PlacesWord}
use Rattle.bk_word_net.specs.WordNet.{net_of_word}

-- the net of the word of 65x47 has six nodes
pub net_65x47 : net_of_word word_65x47 ≡ record {
  nodes = 6;
  wires =
      (0, 2) ∷ (0, 1) ∷ (0, 3) ∷ (1, 4) ∷ (1, 3) ∷ (2, 5) ∷ (2, 4) ∷ (3, 4) ∷ (3, 5) ∷ (4, 5) ∷ [];
}
net_65x47 = refl

-- the net of the word of four equal squares has three nodes
pub net_of_four : net_of_word word_of_four ≡ record { nodes = 3; wires = (0, 1) ∷ (0, 1) ∷ (1, 2) ∷ (1, 2) ∷ [] }
net_of_four = refl

-- of this tiling the word's net and the diagram have the same numbers
pub same_33x32 : net_of_word word_33x32 ≡ smith_diagram rectangle_33x32
same_33x32 = refl

-- two squares, and one under the shorter that ends level with the longer
abbrev pub word_3x2 : Word
word_3x2 = move 2 (Under ∷ []) ∷ move 1 (Even ∷ []) ∷ []

-- the flow of the rectangle 3x2
abbrev pub flow_3x2 : Flow
flow_3x2 = record { total = pos 3; potentials = pos 2 ∷ pos 1 ∷ pos 0 ∷ []; currents = pos 2 ∷ pos 1 ∷ pos 1 ∷ [] }

-- its signs say how the bottoms compare that the potentials give
placed_3x2 : PlacesWord word_3x2 flow_3x2
placed_3x2 = record { long = (omega (arith, ints), (omega (arith, ints), (omega (arith, ints), tt))); signs = (refl, (refl, tt)) }
