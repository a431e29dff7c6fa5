use Rattle.bk_pair.specs.SquaresBySide.{AreSideBitsOf}
use Rattle.bk_pair.proofs.kept.small_sides.Given as goal

abbrev pub invariant-loop-q : goal.invariant-loop-q
invariant-loop-q l = AreSideBitsOf l.small l.squares
