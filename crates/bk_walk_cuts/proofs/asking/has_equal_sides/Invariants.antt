use Rattle.std.proofs.Common.{ℕ, ◌<◌}
use Rattle.bk_walk_cuts.specs.KnownSides.{AreKnownEqual}
use Rattle.bk_walk_cuts.proofs.asking.has_equal_sides.Given as goal

abbrev pub invariant-loop-i : goal.invariant-loop-i
invariant-loop-i l = (k j : ℕ) → j < k → k < l.i → AreKnownEqual l.ledger k j → ⊥
