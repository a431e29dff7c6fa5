use Rattle.bk_free_search.proofs.Boards.LinesBeside.{Gathered}
use Rattle.bk_free_search.proofs.node_lines.lines_beside.Given as goal

abbrev pub invariant-squares : goal.invariant-squares
invariant-squares l = Gathered l.lefts l.rights l.squares l.square-index l.lines
