use Rattle.std.proofs.Common.{length, take, ◌+◌, ◌≡◌}
use Rattle.bk_play.proofs.splicing.lengthen.Given as goal

abbrev pub invariant-loop : goal.invariant-loop
invariant-loop g l = record {
  long : length l.list.items ≡ length l.fn.list.items + l.counter;
  front : take (length l.fn.list.items) l.list.items ≡ l.fn.list.items;
}
