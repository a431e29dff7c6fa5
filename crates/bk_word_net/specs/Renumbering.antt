-- The net of a word held against a Smith diagram: they differ in the numbers of nodes and wires alone.
-- A statement alone; it is proved apart.
-- Example (WordNetExamples): for the rectangle 33x32 all numbers are the same already.
use Rattle.std.specs.Prelude.{length, option_map, slice_get, suc, ℕ, ◌<◌, ◌≡◌}
use Rattle.bk_tiling.specs.Tiling.{IsTiling, Tiling}
use Rattle.bk_net.specs.Diagram.{smith_diagram}
use Rattle.bk_net.specs.Net.{Net}
use Rattle.bk_word.specs.Word.{Word}
use Rattle.bk_lay.specs.TilingWord.{IsWordOf}
use Rattle.bk_word_net.specs.WordNet.{net_of_word}

-- f takes each number below n to a number below n, and no two to the same one
pub record IsOneToOneBelow (n : ℕ) (f : ℕ → ℕ) : Type 0 where
  pub below : (k : ℕ) → k < n → f k < n
  pub apart : (j k : ℕ) → j < n → k < n → f j ≡ f k → j ≡ k

-- two nets differ in the numbers of nodes and wires alone; the first and the last node keep theirs
pub record IsRenumbering (m n : Net) (node wire : ℕ → ℕ) : Type 0 where
  pub nodes : m.nodes ≡ n.nodes
  pub wires : length m.wires ≡ length n.wires
  pub node_apart : IsOneToOneBelow m.nodes node
  pub wire_apart : IsOneToOneBelow (length m.wires) wire
  pub first : node 0 ≡ 0
  pub last : (k : ℕ) → suc k ≡ m.nodes → node k ≡ k
  pub each : (k : ℕ) → k < length m.wires
      → slice_get n.wires (wire k) ≡ option_map (λ w. (node w.0, node w.1)) (slice_get m.wires k)

-- the net of a tiling's word is its Smith diagram, with nodes and squares renumbered
abbrev pub WordNetIsSmithDiagram : Type 0
WordNetIsSmithDiagram = (t : Tiling) (w : Word) → IsTiling t → IsWordOf t w
    → (node : ℕ → ℕ) × (wire : ℕ → ℕ) × IsRenumbering (net_of_word w) (smith_diagram t) node wire
