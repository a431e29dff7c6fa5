use Rattle.std.proofs.Common.{ℕ}
use Rattle.bk_free_search.specs.NodeLines.{Has, IsLineOfOne}
use Rattle.bk_free_search.proofs.sides.lines_of.Given as goal

abbrev pub invariant-squares : goal.invariant-squares
invariant-squares l = (wall line : ℕ) → Has l.found line → IsLineOfOne l.lines l.squares wall line
