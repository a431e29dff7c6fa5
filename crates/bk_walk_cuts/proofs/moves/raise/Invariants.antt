use Rattle.std.proofs.Common.{length, ◌≡◌, ◌≤◌}
use Rattle.bk_catalogue.specs.NextMove.{signs_after}
use Rattle.bk_walk_cuts.proofs.moves.raise.Given as goal

abbrev pub invariant-signs : goal.invariant-signs
invariant-signs l = record { same : signs_after l.initial.signs.items ≡ signs_after l.signs.items; few : length l.signs.items ≤ 18 }

abbrev pub decreases-signs : goal.decreases-signs
decreases-signs l = length l.signs.items
