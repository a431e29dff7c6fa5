-- A square is drawn over a row by its edge or by its two sides; all points lie within the row.
use Rattle.std.proofs.Common.{arith, sym, ◌∙◌}
use Rattle.bk_draw.proofs.Rows.{over_from_edge, over_from_none, over_from_sides}
use Rattle.bk_draw.proofs.draw_square.Goals as goal

pub returns-then-is_at_edge : goal.returns-then-is_at_edge
returns-then-is_at_edge c = over_from_edge c.args.q c.args.y c.args.points.now c.draw_points.new.points c.draw_points.ensures

pub returns-else-is_along : goal.returns-else-is_along
returns-else-is_along c =
    over_from_none c.args.q c.args.y c.args.points.now (sym c.is_at_edge.ensures ∙ c.if-is_at_edge.false) (sym c.is_along.ensures
    ∙ c.if-is_along.false)

pub returns-then-is_along : goal.returns-then-is_along
returns-then-is_along c =
    over_from_sides c.args.q c.args.y c.args.points.now c.draw_points-then-is_along.new.points c.draw_points-then-is_along-2.new.points
    (sym c.is_along.ensures ∙ c.if-is_along.true) (sym c.is_at_edge.ensures ∙ c.if-is_at_edge.false) c.draw_points-then-is_along.auto.points
    c.draw_points-then-is_along.ensures c.draw_points-then-is_along-2.ensures

pub is_at_edge-requires : goal.is_at_edge-requires
is_at_edge-requires c = c.requires.fits

pub draw_points-requires-clause-order : goal.draw_points-requires-clause-order
draw_points-requires-clause-order c = omega arith

pub draw_points-requires-clause-within : goal.draw_points-requires-clause-within
draw_points-requires-clause-within c = omega (arith, c.requires.within)

pub draw_points-requires-clause-bottom : goal.draw_points-requires-clause-bottom
draw_points-requires-clause-bottom c = c.requires.fits

pub is_along-requires : goal.is_along-requires
is_along-requires c = c.requires.fits

pub draw_points-requires-then-is_along-clause-order : goal.draw_points-requires-then-is_along-clause-order
draw_points-requires-then-is_along-clause-order c = omega arith

pub draw_points-requires-then-is_along-clause-within : goal.draw_points-requires-then-is_along-clause-within
draw_points-requires-then-is_along-clause-within c = omega (arith, c.requires.within)

pub draw_points-requires-then-is_along-clause-bottom : goal.draw_points-requires-then-is_along-clause-bottom
draw_points-requires-then-is_along-clause-bottom c = c.requires.fits

pub draw_points-requires-then-is_along-2-clause-order : goal.draw_points-requires-then-is_along-2-clause-order
draw_points-requires-then-is_along-2-clause-order c = omega arith

pub draw_points-requires-then-is_along-2-clause-within : goal.draw_points-requires-then-is_along-2-clause-within
draw_points-requires-then-is_along-2-clause-within c = omega (arith, c.requires.within, c.draw_points-then-is_along.auto.points)

pub draw_points-requires-then-is_along-2-clause-bottom : goal.draw_points-requires-then-is_along-2-clause-bottom
draw_points-requires-then-is_along-2-clause-bottom c = c.requires.fits
