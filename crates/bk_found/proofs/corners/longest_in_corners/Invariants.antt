use Rattle.bk_found.specs.ToldCorners.{AreLongestTold}
use Rattle.bk_found.proofs.corners.longest_in_corners.Given as goal

abbrev pub invariant-squares : goal.invariant-squares
invariant-squares l = AreLongestTold
    (record { wires = l.wires; currents = l.currents; lefts = l.lefts; rights = l.rights; total = l.total; last = l.last }) l.i l.longest
