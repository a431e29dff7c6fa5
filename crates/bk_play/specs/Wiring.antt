-- The wires of a word's net, from how many squares each node hangs and where each square ends.
use Rattle.std.specs.List.{AllByRecursion}
use Rattle.std.specs.Prelude.{List, [], drop, length, map, slice_index, take, ℕ, ◌+◌, ◌++◌, ◌<◌, ◌∷◌, ◌≡◌, ◌≤◌}
use Rattle.bk_play.specs.declared.records.MoveRecord.{MoveRecord}

-- the wires of squares that hang from the nodes in order, from this node on, so many from each; they end at these nodes
abbrev pub move_wires_from : ℕ → List ℕ → List ℕ → List (ℕ × ℕ)
move_wires_from node [] ends = []
move_wires_from node (count ∷ counts) ends = map (λ e. (node, e)) (take count ends)
    ++ move_wires_from (node + 1) counts (drop count ends)

-- how many squares each move hangs, and how many it closes
abbrev pub hung_and_closed : List MoveRecord → List ℕ
hung_and_closed records = map (λ t. t.count) records

abbrev pub closed_of : List MoveRecord → List ℕ
closed_of records = map (λ t. t.closed) records

-- each number is that of one of so many squares
pub record AreNumbers (most : ℕ) (numbers : List ℕ) : Type 0 where
  pub positive : (i : ℕ) → i < length numbers → 0 < slice_index numbers i
  pub small : (i : ℕ) → i < length numbers → slice_index numbers i ≤ most

-- each wire leads from one of so many nodes to another
abbrev pub AreWires : ℕ → List (ℕ × ℕ) → Type 0
AreWires nodes wires = AllByRecursion (λ (w : ℕ × ℕ). (w.0 < nodes) × (w.1 < nodes) × (w.0 ≡ w.1 → ⊥)) wires
