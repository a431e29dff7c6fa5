use Rattle.std.proofs.Common.{length, map, string_bytes}
use Rattle.bk_ask.proofs.OptionSteps.{SayTheSame}
use Rattle.bk_ask.proofs.options.value_of.Given as goal

abbrev pub invariant-options : goal.invariant-options
invariant-options l = SayTheSame l.name (map string_bytes l.words) (map string_bytes l.left)

abbrev pub decreases-options : goal.decreases-options
decreases-options l = length l.left
