use Rattle.std.proofs.Common.{length, take, ◌≡◌, ◌≤◌}
use Rattle.bk_walk_cuts.proofs.lined.LinedSkel.shorten.Given as goal

abbrev pub invariant-moves : goal.invariant-moves
invariant-moves l = record { enough : l.moves ≤ length l.self; front : take (length l.self) l.fn.self ≡ l.self }

abbrev pub decreases-moves : goal.decreases-moves
decreases-moves l = length l.self
