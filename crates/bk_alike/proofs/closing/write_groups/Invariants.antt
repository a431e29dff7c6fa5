use Rattle.std.specs.List.{flat_map}
use Rattle.std.specs.Prelude.{drop}
use Rattle.std.proofs.Common.{◌≡◌}
use Rattle.bk_alike.specs.Alike.{sizes}
use Rattle.bk_alike.specs.GroupsEnd.{group_lines}
use Rattle.bk_alike.proofs.WrittenLines.{IsWrittenTo}
use Rattle.bk_alike.proofs.closing.write_groups.Given as goal

abbrev pub invariant-loop-g : goal.invariant-loop-g
invariant-loop-g g l = record {
  written : IsWrittenTo (flat_map (group_lines l.items) (sizes l.items)) (flat_map (group_lines l.items) (drop l.g (sizes l.items)))
      (g.O.Sink.written l.fn.out) (g.O.Sink.written l.out);
  same : g.O.Sink.faults l.out ≡ g.O.Sink.faults l.fn.out;
}
