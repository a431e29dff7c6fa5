-- The segment and the one behind it are within the ends.
use Rattle.std.proofs.Common.{arith}
use Rattle.bk_catalogue.proofs.lines.line_closing.Goals as goal

pub overflow_add-end : goal.overflow_add-end
overflow_add-end c = omega (arith, c.from.ensures, c.requires)

pub slice_bounds-segment-count : goal.slice_bounds-segment-count
slice_bounds-segment-count c = omega arith

pub slice_bounds-segment-start : goal.slice_bounds-segment-start
slice_bounds-segment-start c = omega arith

pub slice_bounds-segment-end : goal.slice_bounds-segment-end
slice_bounds-segment-end c = omega (arith, c.from.ensures, c.requires)

pub overflow_add-behind : goal.overflow_add-behind
overflow_add-behind c = omega (arith, c.from.ensures, c.from-2.ensures, c.requires)

pub slice_bounds-behind-count : goal.slice_bounds-behind-count
slice_bounds-behind-count c = omega arith

pub slice_bounds-behind-start : goal.slice_bounds-behind-start
slice_bounds-behind-start c = omega arith

pub slice_bounds-behind-end : goal.slice_bounds-behind-end
slice_bounds-behind-end c = omega (arith, c.from.ensures, c.from-2.ensures, c.requires)
