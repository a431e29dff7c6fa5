use Rattle.std.specs.List.{flat_map}
use Rattle.std.specs.Prelude.{Some, drop, slice_get}
use Rattle.std.proofs.Common.{length, ◌+◌, ◌≡◌, ◌≤◌}
use Rattle.bk_alike.specs.declared.item.KeptItem.{KeptItem}
use Rattle.bk_alike.specs.LaterLines.{later_lines}
use Rattle.bk_alike.specs.Pairs.{pair_lines}
use Rattle.bk_alike.proofs.WrittenLines.{IsWrittenTo}
use Rattle.bk_alike.proofs.pairs.write_pairs_with.Given as goal

abbrev pub invariant-loop-place : goal.invariant-loop-place
invariant-loop-place g l = record {
  written : (a : KeptItem) → slice_get l.items l.i ≡ Some a
      → IsWrittenTo (flat_map (pair_lines l.kind a) (drop (l.i + 1) l.items)) (flat_map (later_lines l.kind l.items l.i a) (drop l.place-index l.places))
      (g.O.Sink.written l.fn.out) (g.O.Sink.written l.out);
  count : (a : KeptItem) → slice_get l.items l.i ≡ Some a
      → l.pairs + length (flat_map (later_lines l.kind l.items l.i a) (drop l.place-index l.places))
      ≡ length (flat_map (pair_lines l.kind a) (drop (l.i + 1) l.items));
  few : l.pairs ≤ l.place-index;
  same : g.O.Sink.faults l.out ≡ g.O.Sink.faults l.fn.out;
}
