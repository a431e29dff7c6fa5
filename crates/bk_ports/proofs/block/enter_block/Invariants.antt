use Rattle.std.proofs.Common.{◌≡◌, ◌≤◌, ◌+◌, length}
use Rattle.bk_ports.proofs.Blocks.{IsReadTo}
use Rattle.bk_ports.proofs.block.enter_block.Given as goal

abbrev pub invariant-lines : goal.invariant-lines
invariant-lines g l = record {
  read : IsReadTo
      (record { enters = g.R.Register.enters; may_want = g.R.Register.may_want }) l.fn.register l.fn.kept.number l.fn.kept.front.items
      l.fn.block l.kept.front.items l.rest l.kept.number
      (g.O.Sink.written l.fn.out) (g.O.Sink.written l.out) l.refused l.register;
  shorter : l.kept.number + length l.rest ≤ l.fn.kept.number + length l.fn.block;
  is_ready : g.R.Register.is_ready l.register l.kept.number;
  same_faults : g.O.Sink.faults l.out ≡ g.O.Sink.faults l.fn.out;
}

abbrev pub decreases-lines : goal.decreases-lines
decreases-lines g l = length l.rest
