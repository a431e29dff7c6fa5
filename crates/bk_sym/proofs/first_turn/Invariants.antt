use Rattle.bk_sym.specs.Canonical.{Lies}
use Rattle.bk_sym.specs.Image.{image}
use Rattle.bk_sym.proofs.first_turn.Given as goal

abbrev pub invariant-loop-turn : goal.invariant-loop-turn
invariant-loop-turn l = Lies (image l.first l.tiling)
