use Rattle.std.specs.List.{list_any}
use Rattle.std.proofs.Common.{cond, length, nat_eq, slice_index, take, ℕ, ◌+◌, ◌<◌, ◌≡◌}
use Rattle.bk_play.proofs.netting.mark.Given as goal

abbrev pub invariant-loop-square : goal.invariant-loop-square
invariant-loop-square l = record {
  long : length l.ended ≡ length l.fn.ended;
  marked : (k : ℕ) → k < length l.fn.ended
      → slice_index l.ended k ≡ cond (list_any (nat_eq (k + 1)) (take l.square-index l.squares)) l.node (slice_index l.fn.ended k);
}
