-- The item at a place is one of the items that are kept.
use Rattle.std.specs.Prelude.{slice_get}
use Rattle.std.proofs.Common.{List, ap, arith, length, refl, subst, sym, ◌<◌, ◌∙◌}
use Rattle.std.proofs.lemmas.Option.{slice_get_read}
use Rattle.bk_alike.specs.declared.item.KeptItem.{KeptItem}
use Rattle.bk_alike.proofs.Alike.item.Goals as goal

pub index-item-requires : goal.index-item-requires
index-item-requires c = omega (arith, c.requires, ap (λ (l : List KeptItem). length l) c.self.view_is)

pub returns : goal.returns
returns c =
    let there = slice_get_read c.self.inside.items.items (length c.self.inside.items.items) c.args.i c.index-item.result.now refl
    (subst (λ (l : List KeptItem). c.args.i < length l) (sym c.self.view_is) c.requires) c.index-item.ensures in
    (c.index-item.result.now, ap (λ (l : List KeptItem). slice_get l c.args.i) (sym c.self.view_is) ∙ there, refl, refl)
