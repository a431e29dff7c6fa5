-- What `flow` answers to a line.
-- Example (NetAnswerExamples): `2 1-0` is answered by `1 -1`, `2` by `no loose 0`, and `2 1-1` by `no wire 1`.
use Rattle.std.specs.Prelude.{Bool, List, [], false, length, true, ℕ, ◌<◌, ◌∷◌, ◌≤◌}
use Rattle.bk_ports.specs.declared.line.TheConstants.{LONGEST_LINE}
use Rattle.bk_net.specs.Flow.{IsPrimitiveFlow}
use Rattle.bk_net.specs.KeptNet.{IsKeptNet}
use Rattle.bk_net.specs.Net.{HasNoLoose, IsLeastLoose, Net}
use Rattle.bk_net.specs.NetLine.{IsNetLine, Item, NetLine, Skip}
use Rattle.bk_net.specs.ReadNet.{IsNetFaultOf}
use Rattle.bk_net.specs.declared.NetFault.{NetFault}
use Rattle.bk_net.specs.declared.NetFault.TheVariants as fault
use Rattle.bk_flow.specs.FlowNumbers.{FlowNumbers}
use Rattle.bk_flow.specs.Wide.{IsWide}
use Rattle.bk_report.specs.Answers.{flow_line}
use Rattle.bk_report.specs.Refusals.{refusal_line}
use Rattle.bk_report.specs.declared.refusal.Refused.{Refused}
use Rattle.bk_report.specs.declared.refusal.Refused.TheVariants.{Long, Loose, Many, Nodes, Text, Wide, Wire}

-- the answer to a net. The first cause counts
pub data AnswersNet (net : Net) : List (List ℕ) → Bool → Type 0 where
  -- a node is not joined to the last: the least of these is named
  loose : (node : ℕ) → IsLeastLoose net node → AnswersNet net (refusal_line (Loose node) ∷ []) true
  -- the stated elimination writes a number that is too large
  wide : HasNoLoose net → IsWide net → AnswersNet net (refusal_line Wide ∷ []) true
  -- the total and the currents of its primitive flow
  solved : (flow : FlowNumbers) → HasNoLoose net → (IsWide net → ⊥) → IsPrimitiveFlow net flow.total flow.currents
      → AnswersNet net (flow_line flow ∷ []) false

-- the bytes are a network line that is not too long, and stand for this item
pub record HasNetItem (bytes : List ℕ) (item : NetLine) : Type 0 where
  pub short : length bytes ≤ LONGEST_LINE
  pub meaning : IsNetLine item bytes

-- the bytes are a network line that is not too long, and stand for this net, which is not too large
pub record HasNet (bytes : List ℕ) (net : Net) : Type 0 where
  pub item : HasNetItem bytes (Item net.nodes net.wires)
  pub kept : IsKeptNet net

-- what is answered to bytes that give no net
abbrev pub refused_net : NetFault → Refused
refused_net (fault.Text at) = Text at
refused_net fault.Many = Many
refused_net (fault.Nodes count) = Nodes count
refused_net (fault.Wire place) = Wire place

-- the answer to a network line
pub data AnswersNetLine (bytes : List ℕ) : List (List ℕ) → Bool → Type 0 where
  -- more than 8,192 bytes
  net_too_long : LONGEST_LINE < length bytes → AnswersNetLine bytes (refusal_line Long ∷ []) true
  -- no network line, or none of a net that is not too large
  no_net : (cause : NetFault) → length bytes ≤ LONGEST_LINE → IsNetFaultOf cause bytes
      → AnswersNetLine bytes (refusal_line (refused_net cause) ∷ []) true
  -- a line without a net has no answer
  no_net_item : HasNetItem bytes Skip → AnswersNetLine bytes [] false
  -- a net
  of_net : (net : Net) (pieces : List (List ℕ)) (refused : Bool) → HasNet bytes net → AnswersNet net pieces refused
      → AnswersNetLine bytes pieces refused
