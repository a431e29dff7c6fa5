-- The group at a place is one of those that are stored.
use Rattle.std.specs.Prelude.{Some, option_map, slice_get}
use Rattle.std.proofs.Common.{List, ap, arith, length, sym, ℕ, ◌∙◌}
use Rattle.std.proofs.lemmas.List.{length-map}
use Rattle.std.proofs.lemmas.Option.{slice_get-map}
use Rattle.indexmap.specs.IndexMap.{values}
use Rattle.bk_alike.specs.Alike.{alike_groups}
use Rattle.bk_alike.specs.declared.item.KeptItem.{KeptItem}
use Rattle.bk_alike.proofs.Alike.members.Goals as goal

pub index-group-requires : goal.index-group-requires
index-group-requires c = omega (
  arith,
  c.requires,
  ap (λ (l : List KeptItem). length (alike_groups l)) c.self.view_is,
  ap length c.self.invariant.groups_are,
  length-map (values c.self.inside.groups) (λ group. group.items),
  length-map c.self.inside.groups.entries (λ e. e.1),
)

pub returns : goal.returns
returns c =
    ap (λ (l : List KeptItem). slice_get (alike_groups l) c.args.g) (sym c.self.view_is)
    ∙ ap (λ (l : List (List ℕ)). slice_get l c.args.g) (sym c.self.invariant.groups_are)
    ∙ slice_get-map (λ group. group.items) (values c.self.inside.groups) c.args.g
    ∙ ap (option_map (λ group. group.items)) c.index-group.ensures
    ∙ ap (λ (l : List ℕ). Some l) (sym c.as_slice.ensures.value)
