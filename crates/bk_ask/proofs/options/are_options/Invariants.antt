use Rattle.std.proofs.Common.{length, map, string_bytes}
use Rattle.bk_ask.proofs.OptionSteps.{StandOrFall}
use Rattle.bk_ask.proofs.options.are_options.Given as goal

abbrev pub invariant-options : goal.invariant-options
invariant-options l = StandOrFall (map (λ name. name.now) l.names) (map string_bytes l.words) (map string_bytes l.left)

abbrev pub decreases-options : goal.decreases-options
decreases-options l = length l.left
