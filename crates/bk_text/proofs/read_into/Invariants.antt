use Rattle.std.specs.Prelude.{length, take, ◌-◌, ◌≤◌}
use Rattle.bk_text.proofs.Progress.{Progress}
use Rattle.bk_text.proofs.read_into.Given as goal

abbrev pub decreases-bytes : goal.decreases-bytes
decreases-bytes l = length l.line - l.at

abbrev pub invariant-bytes : goal.invariant-bytes
invariant-bytes l = record { within : l.at ≤ length l.line; read : Progress (take l.at l.line) l.place l.gatherer }
