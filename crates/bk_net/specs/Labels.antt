-- Nodes labelled so that those that are joined by wires have one label.
-- Example (NetLineExamples): where 0 takes the place of the label 2, 2 becomes 0, and 1 stays.
use Rattle.std.specs.Prelude.{All, List, if◌then◌else◌, length, slice_index, ℕ, ◌<◌, ◌==◌, ◌≡◌}
use Rattle.bk_laws.specs.HasAt.{HasAt}
use Rattle.bk_net.specs.Net.{IsJoined}

-- the ends of each wire are below this number
abbrev pub EndsBelow : ℕ → List (ℕ × ℕ) → Type 0
EndsBelow nodes wires = All (λ w. (w.0 < nodes) × (w.1 < nodes)) wires

-- each label is the number of a node to which the node is joined, and the first `done` wires each lead between two
-- nodes of one label
pub record AreLabels (nodes : ℕ) (wires : List (ℕ × ℕ)) (labels : List ℕ) (done : ℕ) : Type 0 where
  pub many : length labels ≡ nodes
  pub joined : (v : ℕ) → v < nodes → IsJoined wires v (slice_index labels v)
  pub closed : (k : ℕ) (wire : ℕ × ℕ) → HasAt wires k wire → k < done
      → slice_index labels wire.0 ≡ slice_index labels wire.1

-- a label, or the new one in place of the old one
abbrev pub relabelled : ℕ → ℕ → ℕ → ℕ
relabelled old new label = if label == old then new else label

-- the later labels are the earlier ones, with the new label in place of the old one
abbrev pub IsRelabelled : ℕ → ℕ → List ℕ → List ℕ → Type 0
IsRelabelled old new before after =
    (v : ℕ) → v < length before → slice_index after v ≡ relabelled old new (slice_index before v)
