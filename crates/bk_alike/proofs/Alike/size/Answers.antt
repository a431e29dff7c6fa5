-- The size at a place is one of those under which groups are stored.
use Rattle.std.specs.Prelude.{option_map, slice_get}
use Rattle.std.proofs.Common.{List, ap, sym, ℕ, ◌∙◌}
use Rattle.std.proofs.lemmas.Option.{slice_get-map}
use Rattle.bk_alike.specs.Alike.{sizes}
use Rattle.bk_alike.specs.declared.item.KeptItem.{KeptItem}
use Rattle.bk_alike.proofs.Alike.size.Goals as goal

pub returns : goal.returns
returns c =
    ap (λ (l : List KeptItem). slice_get (sizes l) c.args.g) (sym c.self.view_is)
    ∙ ap (λ (l : List (ℕ × ℕ)). slice_get l c.args.g) (sym c.self.invariant.sizes_are)
    ∙ slice_get-map (λ e. e.0) c.self.inside.groups.entries c.args.g
    ∙ ap (option_map (λ e. e.0)) (sym c.in-Some.ensures.entry)
