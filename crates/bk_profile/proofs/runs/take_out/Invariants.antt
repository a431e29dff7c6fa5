use Rattle.std.proofs.Common.{drop, take, ◌++◌, ◌-◌, ◌≡◌, ◌≤◌}
use Rattle.bk_profile.proofs.runs.take_out.Given as goal

abbrev pub decreases-runs : goal.decreases-runs
decreases-runs l = l.last - l.first

abbrev pub invariant-runs : goal.invariant-runs
invariant-runs l = record {
  from : l.first ≤ l.last;
  up_to : l.last ≤ l.end;
  items : l.outline.items ≡ take l.last l.fn.outline.items ++ drop l.end l.fn.outline.items;
}
