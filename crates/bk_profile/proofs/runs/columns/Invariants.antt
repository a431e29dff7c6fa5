use Rattle.std.proofs.Common.{take, ◌≡◌}
use Rattle.bk_profile.specs.OutlineRuns.{width_of}
use Rattle.bk_profile.proofs.runs.columns.Given as goal

abbrev pub invariant-loop-run : goal.invariant-loop-run
invariant-loop-run l = l.total ≡ width_of (take l.run-index l.outline)
