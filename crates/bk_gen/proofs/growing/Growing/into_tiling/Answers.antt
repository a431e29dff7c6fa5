use Rattle.std.proofs.Common.{List, ap, subst, sym, ◌∙◌}
use Rattle.bk_tiling.specs.CodeOrder.{in_code_order}
use Rattle.bk_tiling.specs.KeptTiling.{IsKept}
use Rattle.bk_tiling.specs.Tiling.{Tiling}
use Rattle.bk_tiling.specs.declared.Square.{Square}
use Rattle.bk_gen.proofs.GrowingLaws.{growing_apart, growing_sides, kept_in_order}
use Rattle.bk_gen.proofs.growing.Growing.into_tiling.Goals as goal

pub put_in_order-requires-clause-sides : goal.put_in_order-requires-clause-sides
put_in_order-requires-clause-sides c =
    let t : Tiling = record { width = c.self.inside.width; height = c.self.inside.height; squares = c.self.inside.squares.items } in
    growing_sides t c.self.invariant

pub put_in_order-requires-clause-apart : goal.put_in_order-requires-clause-apart
put_in_order-requires-clause-apart c =
    let t : Tiling = record { width = c.self.inside.width; height = c.self.inside.height; squares = c.self.inside.squares.items } in
    growing_apart t c.self.invariant

pub from_known-requires : goal.from_known-requires
from_known-requires c =
    let t : Tiling = record { width = c.self.inside.width; height = c.self.inside.height; squares = c.self.inside.squares.items } in
    subst (λ (l : List Square). IsKept (record { width = c.self.inside.width; height = c.self.inside.height; squares = l }))
    (sym c.put_in_order.ensures) (kept_in_order t c.self.invariant)

pub returns : goal.returns
returns c =
    c.from_known.ensures
    ∙ ap (λ (l : List Square). record { width = c.self.inside.width; height = c.self.inside.height; squares = l }) c.put_in_order.ensures
    ∙ ap (λ (t : Tiling). record t { squares = in_code_order t.squares }) c.self.view_is
