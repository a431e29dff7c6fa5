use Rattle.std.proofs.Common.{ℕ, ◌<◌}
use Rattle.bk_walk_cuts.specs.KnownSides.{AreKnownEqual}
use Rattle.bk_walk_cuts.proofs.asking.equals_one_before.Given as goal

abbrev pub invariant-loop-j : goal.invariant-loop-j
invariant-loop-j l = (k : ℕ) → k < l.j → AreKnownEqual l.ledger l.i k → ⊥
