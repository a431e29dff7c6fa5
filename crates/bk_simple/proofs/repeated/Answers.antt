use Rattle.bk_simple.proofs.Repeats.{least_if_some, none_if_perfect}
use Rattle.bk_simple.proofs.repeated.Goals as goal

pub returns-clause-perfect : goal.returns-clause-perfect
returns-clause-perfect c =
    none_if_perfect c.args.tiling.now c.sorted_sides-sides.result.items c.sorted_sides-sides.ensures.same c.sorted_sides-sides.ensures.sorted
    c.first_twice.result
    (rw c.as_slice.ensures.value at c.first_twice.ensures.none) (rw c.as_slice.ensures.value at c.first_twice.ensures.first)

pub returns-clause-least : goal.returns-clause-least
returns-clause-least c =
    least_if_some c.args.tiling.now c.sorted_sides-sides.result.items c.sorted_sides-sides.ensures.same c.sorted_sides-sides.ensures.sorted c.first_twice.result
    (rw c.as_slice.ensures.value at c.first_twice.ensures.first)
