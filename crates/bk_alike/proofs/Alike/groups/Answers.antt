-- As many groups are stored as there are.
use Rattle.std.proofs.Common.{List, ap, arith, length}
use Rattle.std.proofs.lemmas.List.{length-map}
use Rattle.indexmap.specs.IndexMap.{values}
use Rattle.bk_alike.specs.Alike.{alike_groups}
use Rattle.bk_alike.specs.declared.item.KeptItem.{KeptItem}
use Rattle.bk_alike.proofs.Alike.groups.Goals as goal

pub returns : goal.returns
returns c = omega (
  arith,
  c.len.ensures.len,
  ap (λ (l : List KeptItem). length (alike_groups l)) c.self.view_is,
  ap length c.self.invariant.groups_are,
  length-map (values c.self.inside.groups) (λ group. group.items),
  length-map c.self.inside.groups.entries (λ e. e.1),
)
