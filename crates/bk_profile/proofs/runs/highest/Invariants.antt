use Rattle.std.proofs.Common.{get_or, length, ℕ, ◌<◌, ◌≡◌, ◌≤◌}
use Rattle.std.specs.List.{HoldsAt}
use Rattle.bk_profile.specs.declared.runs.OutlineRun.{OutlineRun}
use Rattle.bk_profile.proofs.runs.highest.Given as goal

abbrev pub invariant-loop-run : goal.invariant-loop-run
invariant-loop-run l = record {
  most : (k : ℕ) (d : OutlineRun) → k < l.run-index → (get_or l.outline k d).level ≤ l.most;
  some : (k : ℕ) × (k < length l.outline) × HoldsAt (λ (r : OutlineRun). r.level ≡ l.most) l.outline k;
}
