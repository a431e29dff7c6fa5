use Rattle.std.proofs.Common.{◌≡◌, ◌≤◌, ◌^◌, ◌-◌, ◌+◌}
use Rattle.bk_ports.proofs.Taking.{IsTaken}
use Rattle.bk_ports.proofs.input.enter_lines.Given as goal

abbrev pub invariant-reads : goal.invariant-reads
invariant-reads g l = record {
  state : IsTaken (record { enters = g.R.Register.enters; may_want = g.R.Register.may_want }) l.fn.register (g.S.Source.left l.fn.source)
      (g.S.Source.left l.source) (g.O.Sink.written l.fn.out) (g.O.Sink.written l.out) l.taken l.kept.front.items l.kept.number l.refused l.register;
  within : l.taken ≤ 2 ^ 30;
  early : l.kept.number ≤ l.taken + 1;
  is_ready : g.R.Register.is_ready l.register l.kept.number;
  same_source : g.S.Source.faults l.source ≡ g.S.Source.faults l.fn.source;
  same_out : g.O.Sink.faults l.out ≡ g.O.Sink.faults l.fn.out;
}

abbrev pub decreases-reads : goal.decreases-reads
decreases-reads g l = 2 ^ 30 - l.taken
