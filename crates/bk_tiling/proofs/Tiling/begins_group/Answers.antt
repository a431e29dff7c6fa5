use Rattle.std.proofs.Common.{ap, arith, length, slice_index_or, ◌+◌, ◌-◌, ◌<◌, ◌^◌, ◌∙◌, ◌≡◌}
use Rattle.std.specs.Prelude.{not}
use Rattle.bk_tiling.proofs.GroupStarts.{begins_at, right_fits}
use Rattle.bk_tiling.specs.Tiling.{Tiling as Tiled}
use Rattle.bk_tiling.specs.declared.Square.{Square}
use Rattle.bk_tiling.proofs.Tiling.begins_group.Goals as goal

pub stands_beside-requires : goal.stands_beside-requires
stands_beside-requires c =
    let d : Square = record { x = 0; y = 0; s = 0 } in
    let same : length c.self.inside.squares.items ≡ length c.args.self.now.squares = ap (λ (t : Tiled). length t.squares) c.self.view_is in
    let fits : (slice_index_or c.self.inside.squares.items (c.args.i - 1) d).x + (slice_index_or c.self.inside.squares.items (c.args.i - 1) d).s < 2 ^
    64 = right_fits _ c.self.invariant (c.args.i - 1) d (omega (arith, c.requires)) in
    let here = rw (← c.deref.ensures.0) at fits in
    here

pub returns-else-i-eq0 : goal.returns-else-i-eq0
returns-else-i-eq0 c =
    let d : Square = record { x = 0; y = 0; s = 0 } in
    let same : c.self.inside.squares.items ≡ c.args.self.now.squares = ap (λ (t : Tiled). t.squares) c.self.view_is in
    let beside = rw (c.deref.ensures.0, c.deref-else-i-eq0.ensures.0, same) at c.stands_beside.ensures in
    ap not beside ∙ begins_at c.args.self.now.squares c.args.i d c.if-i-eq0.false c.requires
