use Rattle.std.specs.List.Sorted.{IsPermutation}
use Rattle.std.proofs.Common.{List, ap, arith, length, subst, ℕ, ◌++◌, ◌∙◌}
use Rattle.arrayvec.proofs.ArrayVecLemmas.{items-with_items}
use Rattle.std.proofs.lemmas.List.Sorted.{IsNonDecreasingBy-from_sort}
use Rattle.bk_tiling.specs.Tiling.{sides_of}
use Rattle.bk_simple.proofs.sorted_sides.Goals as goal

pub push_sides-requires : goal.push_sides-requires
push_sides-requires c = omega (arith, ap length c.new-sides.ensures, c.order-few.ensures.kept.few)

pub returns-clause-same : goal.returns-clause-same
returns-clause-same c =
    rw (items-with_items c.push_sides.new.sides c.sort_unstable.new.self (c.sort_unstable.ensures.len ∙ ap length c.deref_mut.ensures.value))
    (subst (λ (l : List ℕ). IsPermutation l c.sort_unstable.new.self)
    (c.deref_mut.ensures.value ∙ c.push_sides.ensures ∙ ap (λ (l : List ℕ). l ++ sides_of c.args.tiling.now) c.new-sides.ensures)
    c.sort_unstable.ensures.permutation)

pub returns-clause-sorted : goal.returns-clause-sorted
returns-clause-sorted c =
    rw (items-with_items c.push_sides.new.sides c.sort_unstable.new.self (c.sort_unstable.ensures.len ∙ ap length c.deref_mut.ensures.value))
    (IsNonDecreasingBy-from_sort (λ x. x) c.sort_unstable.new.self c.sort_unstable.ensures.sorted)
