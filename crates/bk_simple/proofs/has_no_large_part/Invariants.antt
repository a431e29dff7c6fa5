use Rattle.std.proofs.Common.{ℕ, ◌<◌}
use Rattle.bk_simple.specs.LargeParts.{HasNoneWider}
use Rattle.bk_simple.proofs.has_no_large_part.Given as goal

abbrev pub invariant-loop-i : goal.invariant-loop-i
invariant-loop-i l = (k : ℕ) → k < l.i → HasNoneWider l.tiling k
