use Rattle.std.specs.Prelude.{drop}
use Rattle.std.proofs.Common.{length, ◌+◌, ◌≡◌}
use Rattle.bk_alike.specs.Pairs.{all_pairs}
use Rattle.bk_alike.proofs.WrittenLines.{IsWrittenTo}
use Rattle.bk_alike.proofs.pairs.write_all_pairs.Given as goal

abbrev pub invariant-loop-i : goal.invariant-loop-i
invariant-loop-i g l = record {
  written : IsWrittenTo (all_pairs l.kind l.items) (all_pairs l.kind (drop l.i l.items)) (g.O.Sink.written l.fn.out) (g.O.Sink.written l.out);
  count : l.pairs + length (all_pairs l.kind (drop l.i l.items)) ≡ length (all_pairs l.kind l.items);
  same : g.O.Sink.faults l.out ≡ g.O.Sink.faults l.fn.out;
}
