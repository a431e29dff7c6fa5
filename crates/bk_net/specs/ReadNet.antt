-- What is read of a network line, and when it is refused.
-- Example (FlowExamples): of the wires 0-1 and 1-1 between two nodes the second is the first at fault.
use Rattle.std.specs.Prelude.{HoldsAt, List, length, ℕ, ◌+◌, ◌<◌, ◌≡◌, ◌≤◌}
use Rattle.bk_net.specs.KeptNet.{IsKeptNet}
use Rattle.bk_net.specs.NetLine.{IsNetLine, IsNoNetLine, Item, NetLine, Skip}
use Rattle.bk_net.specs.declared.NetFault.{NetFault}
use Rattle.bk_net.specs.declared.NetFault.TheVariants.{Many, Nodes, Text, Wire}
use Rattle.bk_net.specs.declared.NetLine.{NetLine as NetLineRead}
use Rattle.bk_net.specs.declared.NetLine.TheVariants as read
use Rattle.bk_net.specs.declared.TheConstants.{MOST_NODES, MOST_WIRES}

-- what a line that was read stands for
abbrev pub net_line_of : NetLineRead → NetLine
net_line_of read.Skip = Skip
net_line_of (read.Item net) = Item net.nodes net.wires

-- a net that was read has 2 to 201 nodes and at most 200 wires, each between two different ones of them
abbrev pub IsKeptLine : NetLineRead → Type 0
IsKeptLine read.Skip = Unit {0}
IsKeptLine (read.Item net) = IsKeptNet net

-- a wire between two different nodes of so many
abbrev pub JoinsNodes : ℕ → ℕ × ℕ → Type 0
JoinsNodes nodes w = (w.0 < nodes) × (w.1 < nodes) × ¬ (w.0 ≡ w.1)

-- the wire at a place, counted from 1, is the first that names a node that is not there, or one node twice
pub record IsFirstFault (nodes : ℕ) (wires : List (ℕ × ℕ)) (place : ℕ) : Type 0 where
  pub before : ℕ
  pub is : place ≡ before + 1
  pub within : before < length wires
  pub here : HoldsAt (λ w. ¬ (JoinsNodes nodes w)) wires before
  pub earlier : (k : ℕ) → k < before → HoldsAt (JoinsNodes nodes) wires k

-- a number of nodes that a net may have: 2 to 201
abbrev pub IsNodeCount : ℕ → Type 0
IsNodeCount nodes = (2 ≤ nodes) × (nodes ≤ MOST_NODES)

-- why bytes are refused: they leave the grammar of network lines behind `at` bytes; or they are such a line, of more
-- than 200 wires; or of so many nodes, which are fewer than 2 or more than 201; or with a first wire at fault
abbrev pub IsNetFaultOf : NetFault → List ℕ → Type 0
IsNetFaultOf (Text at) bytes = IsNoNetLine bytes at
IsNetFaultOf Many bytes =
    (nodes : ℕ) × (wires : List (ℕ × ℕ)) × IsNetLine (Item nodes wires) bytes × (MOST_WIRES < length wires)
IsNetFaultOf (Nodes count) bytes =
    (wires : List (ℕ × ℕ)) × IsNetLine (Item count wires) bytes × (length wires ≤ MOST_WIRES) × ¬ (IsNodeCount count)
IsNetFaultOf (Wire place) bytes =
    (nodes : ℕ) × (wires : List (ℕ × ℕ)) × IsNetLine (Item nodes wires) bytes × (length wires ≤ MOST_WIRES)
    × IsNodeCount nodes × IsFirstFault nodes wires place
