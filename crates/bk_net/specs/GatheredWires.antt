-- The wires of a line that is read: the first 200 are kept, and it is known whether there were more.
-- Example (NetLineExamples): with the wire 1-0 the wire 0-1 makes two.
use Rattle.std.specs.Prelude.{Bool, List, None, Option, Some, [], false, length, true, ℕ, ◌++◌, ◌<◌, ◌∷◌, ◌≡◌}
use Rattle.bk_net.specs.ReadNet.{IsFirstFault, IsNodeCount}
use Rattle.bk_net.specs.declared.NetFault.{NetFault}
use Rattle.bk_net.specs.declared.NetFault.TheVariants.{Many, Nodes, Text, Wire}
use Rattle.bk_net.specs.declared.TheConstants.{MOST_WIRES}

-- wires, and one more if there is one
abbrev pub and_wire : Option (ℕ × ℕ) → List (ℕ × ℕ) → List (ℕ × ℕ)
and_wire None wires = wires
and_wire (Some w) wires = wires ++ w ∷ []

-- all wires are kept, or there are more than 200 of them
pub record KeepsWires (all kept : List (ℕ × ℕ)) (many : Bool) : Type 0 where
  pub same : many ≡ false → kept ≡ all
  pub more : many ≡ true → MOST_WIRES < length all

-- why the kept wires make no net of so many nodes
abbrev pub IsNoNet : ℕ → Bool → List (ℕ × ℕ) → NetFault → Type 0
IsNoNet nodes many wires (Text at) = ⊥
IsNoNet nodes many wires Many = many ≡ true
IsNoNet nodes many wires (Nodes count) = (many ≡ false) × (count ≡ nodes) × ¬ (IsNodeCount nodes)
IsNoNet nodes many wires (Wire place) = (many ≡ false) × IsNodeCount nodes × IsFirstFault nodes wires place
