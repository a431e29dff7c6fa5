use Rattle.std.proofs.Common.{length, ℕ, ◌<◌, ◌≡◌, ◌≤◌}
use Rattle.std.specs.Prelude.{slice_index}
use Rattle.bk_net.specs.Labels.{relabelled}
use Rattle.bk_net.proofs.labels.relabel.Given as goal

abbrev pub invariant-loop-label : goal.invariant-loop-label
invariant-loop-label l = record {
  many : length l.labels ≡ length l.fn.labels;
  done : (v : ℕ) → v < l.label-index → slice_index l.labels v ≡ relabelled l.old l.new (slice_index l.fn.labels v);
  left : (v : ℕ) → l.label-index ≤ v → slice_index l.labels v ≡ slice_index l.fn.labels v;
}
