use Rattle.bk_pair.proofs.SharedSides.{none_if, some_if}
use Rattle.bk_pair.proofs.shared_side.Goals as goal

pub returns-clause-none : goal.returns-clause-none
returns-clause-none c =
    none_if c.args.a.now c.args.b.now c.sorted_pair_sides-sides.result.items c.sorted_pair_sides-sides.ensures.same c.sorted_pair_sides-sides.ensures.sorted
    c.first_twice.result
    (rw c.as_slice.ensures.value at c.first_twice.ensures.none)

pub returns-clause-some : goal.returns-clause-some
returns-clause-some c =
    some_if c.args.a.now c.args.b.now c.sorted_pair_sides-sides.result.items c.sorted_pair_sides-sides.ensures.same c.sorted_pair_sides-sides.ensures.sorted
    c.first_twice.result
    (rw c.as_slice.ensures.value at c.first_twice.ensures.first)
