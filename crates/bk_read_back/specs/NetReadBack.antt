-- What `net` writes of a tiling is read again by `flow`: as the Smith diagram, whose currents are the sides. Statements
-- alone; each is proved apart.
-- Example (NetExamples): of [2,1][1] `net` writes `3 0-2 0-1 1-2 ; 3 2 1 1`, and `flow` answers `3 2 1 1` to it; it
-- does so to what `net` writes of [4,2][2], too.
use Rattle.std.specs.Prelude.{Bool, List, [], codes, false, true, ℕ, ◌++◌, ◌∷◌}
use Rattle.bk_grammar.specs.Grammar.{LineEnd}
use Rattle.bk_tiling.specs.KeptTiling.{IsKept}
use Rattle.bk_tiling.specs.Tiling.{Tiling}
use Rattle.bk_sym.specs.Canonical.{scaled_down_tiling}
use Rattle.bk_net.specs.Diagram.{smith_diagram}
use Rattle.bk_net.specs.KeptNet.{IsKeptNet}
use Rattle.bk_net.specs.Net.{Net}
use Rattle.bk_net.specs.NetLine.{IsNetLine, Item}
use Rattle.bk_flow.specs.Wide.{IsWide}
use Rattle.bk_report.specs.Answers.{line, net_words, side_words, spaced}
use Rattle.bk_report.specs.Refusals.{refusal_line}
use Rattle.bk_report.specs.declared.refusal.Refused.TheVariants.{Wide}
use Rattle.bk_answer.specs.Answer.{AnswersLine}
use Rattle.bk_answer.specs.NetAnswer.{HasNet}
use Rattle.bk_answer.specs.declared.command.Command.TheVariants.{Memory}
use Rattle.bk_answer.specs.declared.command.MemoryCommand.TheVariants.{Flow}

-- the line of a net, as `net` and `dual` write it, is a network line that stands for the net, whatever comment follows
abbrev pub AWrittenNetIsRead : Type 0
AWrittenNetIsRead = (net : Net) (end : List ℕ) → IsKeptNet net → LineEnd end
    → IsNetLine (Item net.nodes net.wires) (spaced (net_words net) ++ end)

-- what `net` writes of a tiling, without its line feed: the Smith diagram, `;`, the width and the sides
abbrev pub net_text : Tiling → List ℕ
net_text t = spaced (net_words (smith_diagram t) ++ codes ";" ∷ side_words t)

-- what `net` writes of a tiling is read as its Smith diagram
abbrev pub ASmithDiagramIsRead : Type 0
ASmithDiagramIsRead = (t : Tiling) → IsKept t → HasNet (net_text t) (smith_diagram t)

-- what `flow` answers to what `net` writes of a tiling: the width and the sides of the tiling in lowest terms, unless
-- the Smith diagram is wide
pub data FindsSides (t : Tiling) : List (List ℕ) → Bool → Type 0 where
  finds : (IsWide (smith_diagram t) → ⊥) → FindsSides t (line (side_words (scaled_down_tiling t)) ∷ []) false
  too_wide : IsWide (smith_diagram t) → FindsSides t (refusal_line Wide ∷ []) true

-- each answer of `flow` to what `net` writes of a tiling finds the sides
abbrev pub TheSidesAreFound : Type 0
TheSidesAreFound = (t : Tiling) (pieces : List (List ℕ)) (refused : Bool) → IsKept t
    → AnswersLine (Memory Flow) (net_text t) pieces refused → FindsSides t pieces refused
