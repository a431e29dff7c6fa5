use Rattle.std.proofs.Common.{ℕ}
use Rattle.bk_free_search.specs.NodeLines.{Has, TouchesWith}
use Rattle.bk_free_search.proofs.node_lines.lines_with.Given as goal

abbrev pub invariant-nodes : goal.invariant-nodes
invariant-nodes l = (line : ℕ) → Has l.found line → TouchesWith l.nodes l.set line
