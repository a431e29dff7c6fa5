use Rattle.std.specs.Prelude.{Some, length, take, ◌-◌, ◌≡◌, ◌≤◌}
use Rattle.bk_text.specs.Onward.{onward}
use Rattle.bk_text.specs.declared.reader.Header.{Header}
use Rattle.bk_text.specs.declared.reader.Place.TheVariants.{BeforeSide}
use Rattle.bk_text.proofs.gatherer.Gatherer.take_group.Given as goal

abbrev pub decreases-sides : goal.decreases-sides
decreases-sides l = length l.bytes - l.taken

abbrev pub invariant-sides : goal.invariant-sides
invariant-sides l = record {
  within : l.taken ≤ length l.bytes;
  leads : (h : Header) → onward (take l.taken l.bytes) (BeforeSide h l.bracket) l.fn.self ≡ Some (BeforeSide h l.bracket, l.self);
}
