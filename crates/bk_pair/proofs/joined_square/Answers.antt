-- The squares that are put around the corners are those of the two laid together, so they tile the square.
use Rattle.std.proofs.Common.{ap, arith, subst, sym, ◌∙◌}
use Rattle.bk_tiling.specs.CodeOrder.{in_code_order}
use Rattle.bk_tiling.specs.KeptTiling.{IsKept}
use Rattle.bk_tiling.specs.Refusal.{HaveSides, ShareNoCell}
use Rattle.bk_tiling.specs.Tiling.{Tiling, order}
use Rattle.bk_pair.proofs.LaidSquares.{around_turned, exchanged_order, have_sides, kept_square, parts_make_square, squares_stand_apart}
use Rattle.bk_pair.proofs.joined_square.Goals as goal

pub overflow_add-side : goal.overflow_add-side
overflow_add-side c = omega (arith, c.width.ensures.value, c.height.ensures.value, c.requires.wide, c.requires.high)

pub around_corners-squares-requires-clause-few : goal.around_corners-squares-requires-clause-few
around_corners-squares-requires-clause-few c =
    omega (arith, ap (λ (t : Tiling). order t) c.image.ensures.value, exchanged_order c.args.b.now, c.requires.few)

pub put_in_order-requires-clause-sides : goal.put_in_order-requires-clause-sides
put_in_order-requires-clause-sides c =
    let items = around_turned c.args.a.now c.args.b.now c.image.result c.around_corners-squares.result.items c.image.ensures.value
    c.around_corners-squares.ensures in
    subst HaveSides (sym items) (have_sides c.args.a.now c.args.b.now c.width.ensures.kept
    (subst IsKept c.image.ensures.value c.image.ensures.kept) c.requires)

pub put_in_order-requires-clause-apart : goal.put_in_order-requires-clause-apart
put_in_order-requires-clause-apart c =
    let items = around_turned c.args.a.now c.args.b.now c.image.result c.around_corners-squares.result.items c.image.ensures.value
    c.around_corners-squares.ensures in
    subst ShareNoCell (sym items) (squares_stand_apart c.args.a.now c.args.b.now c.width.ensures.kept
    (subst IsKept c.image.ensures.value c.image.ensures.kept) c.requires)

pub from_known-requires : goal.from_known-requires
from_known-requires c =
    let items = around_turned c.args.a.now c.args.b.now c.image.result c.around_corners-squares.result.items c.image.ensures.value
    c.around_corners-squares.ensures in
    subst IsKept (sym (parts_make_square c.args.a.now c.args.b.now c.width.result c.height.result c.put_in_order.new.squares.items
    c.width.ensures.value c.height.ensures.value (c.put_in_order.ensures ∙ ap in_code_order items)))
    (kept_square c.args.a.now c.args.b.now c.width.ensures.kept (subst IsKept c.image.ensures.value c.image.ensures.kept) c.requires)

pub returns : goal.returns
returns c =
    let items = around_turned c.args.a.now c.args.b.now c.image.result c.around_corners-squares.result.items c.image.ensures.value
    c.around_corners-squares.ensures in
    c.from_known.ensures
    ∙ parts_make_square c.args.a.now c.args.b.now c.width.result c.height.result c.put_in_order.new.squares.items c.width.ensures.value
    c.height.ensures.value (c.put_in_order.ensures ∙ ap in_code_order items)
