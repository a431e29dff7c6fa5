use Rattle.std.specs.List.{flat_map}
use Rattle.std.specs.Prelude.{drop}
use Rattle.std.proofs.Common.{◌≡◌}
use Rattle.bk_alike.specs.GroupsEnd.{member_at}
use Rattle.bk_alike.proofs.WrittenLines.{IsWrittenTo}
use Rattle.bk_alike.proofs.closing.write_members.Given as goal

abbrev pub invariant-loop-place : goal.invariant-loop-place
invariant-loop-place g l = record {
  written : IsWrittenTo (flat_map (member_at l.items) l.places) (flat_map (member_at l.items) (drop l.place-index l.places))
      (g.O.Sink.written l.fn.out) (g.O.Sink.written l.out);
  same : g.O.Sink.faults l.out ≡ g.O.Sink.faults l.fn.out;
}
