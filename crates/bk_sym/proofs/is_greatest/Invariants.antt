use Rattle.bk_sym.proofs.Greatest.{NoneGreater}
use Rattle.bk_sym.proofs.is_greatest.Given as goal

abbrev pub invariant-loop-turn : goal.invariant-loop-turn
invariant-loop-turn l = NoneGreater l.tiling l.turn-items l.turn-index l.tiling
