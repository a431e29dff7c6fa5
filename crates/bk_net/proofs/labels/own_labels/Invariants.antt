use Rattle.std.proofs.Common.{length, ℕ, ◌<◌, ◌≡◌}
use Rattle.std.specs.Prelude.{slice_index}
use Rattle.bk_net.proofs.labels.own_labels.Given as goal

abbrev pub invariant-loop-v : goal.invariant-loop-v
invariant-loop-v l = record {
  many : length l.labels.items ≡ l.v;
  own : (u : ℕ) → u < l.v → slice_index l.labels.items u ≡ u;
}
