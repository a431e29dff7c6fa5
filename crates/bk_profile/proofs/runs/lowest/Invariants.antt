use Rattle.bk_profile.specs.OutlineRuns.{IsLowest}
use Rattle.bk_profile.proofs.runs.lowest.Given as goal

abbrev pub invariant-loop-i : goal.invariant-loop-i
invariant-loop-i l = IsLowest l.outline l.i l.first l.end
