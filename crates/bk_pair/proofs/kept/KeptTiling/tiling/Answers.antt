use Rattle.std.proofs.Common.{ap, subst, sym, ◌∙◌, ◌≡◌}
use Rattle.bk_tiling.specs.CodeOrder.{in_code_order}
use Rattle.bk_tiling.specs.Refusal.{HaveSides, ShareNoCell}
use Rattle.bk_pair.proofs.KeptSquares.{copied_to_empty, stored_apart, stored_sides, stored_squares_make_a_kept_tiling}
use Rattle.bk_pair.proofs.kept.KeptTiling.tiling.Goals as goal

pub put_in_order-requires-clause-sides : goal.put_in_order-requires-clause-sides
put_in_order-requires-clause-sides c =
    let items : c.try_extend_from_slice.new.self.items ≡ c.self.inside.squares.items =
    copied_to_empty c.try_extend_from_slice.result c.new-squares.result.items c.as_slice.result.now c.self.inside.squares.items
    c.try_extend_from_slice.new.self.items (sym c.is_err.ensures.value ∙ c.if-is_err.false) c.try_extend_from_slice.ensures.ok c.new-squares.ensures
    c.as_slice.ensures.value in
    subst HaveSides (sym items) (stored_sides c.self.inside.width c.self.inside.height c.self.inside.squares.items c.self.inside.apart
    c.self.inside.small c.self.invariant)

pub put_in_order-requires-clause-apart : goal.put_in_order-requires-clause-apart
put_in_order-requires-clause-apart c =
    let items : c.try_extend_from_slice.new.self.items ≡ c.self.inside.squares.items =
    copied_to_empty c.try_extend_from_slice.result c.new-squares.result.items c.as_slice.result.now c.self.inside.squares.items
    c.try_extend_from_slice.new.self.items (sym c.is_err.ensures.value ∙ c.if-is_err.false) c.try_extend_from_slice.ensures.ok c.new-squares.ensures
    c.as_slice.ensures.value in
    subst ShareNoCell (sym items) (stored_apart c.self.inside.width c.self.inside.height c.self.inside.squares.items c.self.inside.apart
    c.self.inside.small c.self.invariant)

pub from_known-requires : goal.from_known-requires
from_known-requires c =
    let items : c.try_extend_from_slice.new.self.items ≡ c.self.inside.squares.items =
    copied_to_empty c.try_extend_from_slice.result c.new-squares.result.items c.as_slice.result.now c.self.inside.squares.items
    c.try_extend_from_slice.new.self.items (sym c.is_err.ensures.value ∙ c.if-is_err.false) c.try_extend_from_slice.ensures.ok c.new-squares.ensures
    c.as_slice.ensures.value in
    stored_squares_make_a_kept_tiling c.self.inside.width c.self.inside.height c.self.inside.squares.items c.self.inside.apart c.self.inside.small
    c.self.invariant _
    (c.put_in_order.ensures ∙ ap in_code_order items)
