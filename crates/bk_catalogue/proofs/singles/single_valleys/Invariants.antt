use Rattle.bk_catalogue.proofs.HangingBounds.CountingLaws.{IsFound}
use Rattle.bk_catalogue.proofs.singles.single_valleys.Given as goal

abbrev pub invariant-loop-i : goal.invariant-loop-i
invariant-loop-i l = IsFound l.signs l.sizes l.i l.found l.low
