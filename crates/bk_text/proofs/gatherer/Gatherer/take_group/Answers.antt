use Rattle.std.specs.Prelude.{false, length, true, ◌<◌, ◌≡◌}
use Rattle.std.proofs.Common.{ap, arith, le_refl, refl, subst, sym, ◌∙◌}
use Rattle.bk_text.specs.GatheredSides.{Gathered, with_group}
use Rattle.bk_text.proofs.Fronts.{front_side_ends_within_the_bytes, group_further}
use Rattle.bk_text.proofs.Progress.{a_gathered_side_is_there}
use Rattle.bk_text.proofs.gatherer.Gatherer.take_group.Goals as goal

pub sides-preserved : goal.sides-preserved
sides-preserved c = record {
  within = front_side_ends_within_the_bytes c.args.bracket c.args.bytes.now c.sides.taken c.in-Inner.side c.in-Inner.len false c.sides.invariant.within
      c.in-Inner.ensures;
  leads = group_further c.args.bracket c.args.bytes.now c.sides.taken c.in-Inner.side c.in-Inner.len false c.args.self.now c.sides.self
      c.add_side.new.self c.sides.invariant.leads c.in-Inner.ensures c.add_side.ensures;
}

pub returns-in-Last-clause-leads : goal.returns-in-Last-clause-leads
returns-in-Last-clause-leads c =
    group_further c.args.bracket c.args.bytes.now c.sides.taken c.in-Last.side c.in-Last.len true c.args.self.now c.sides.self
    c.close_group.new.self c.sides.invariant.leads c.in-Last.ensures (c.close_group.ensures ∙ ap with_group c.add_side-in-Last.ensures)

pub sides-init : goal.sides-init
sides-init c = record { within = omega arith; leads = λ _. refl }

pub slice_bounds-side_in_front-count : goal.slice_bounds-side_in_front-count
slice_bounds-side_in_front-count c = c.sides.invariant.within

pub add_side-requires : goal.add_side-requires
add_side-requires c = c.in-Inner.ensures.side_fits

pub sides-smaller : goal.sides-smaller
sides-smaller c = omega (arith, c.in-Inner.ensures.some, c.sides-test.true)

pub add_side-requires-in-Last : goal.add_side-requires-in-Last
add_side-requires-in-Last c = c.in-Last.ensures.side_fits

pub returns-in-Last-clause-within : goal.returns-in-Last-clause-within
returns-in-Last-clause-within c =
    front_side_ends_within_the_bytes c.args.bracket c.args.bytes.now c.sides.taken c.in-Last.side c.in-Last.len true c.sides.invariant.within c.in-Last.ensures

pub returns-in-Other-clause-within : goal.returns-in-Other-clause-within
returns-in-Other-clause-within c = c.sides.invariant.within

pub returns-in-Other-clause-leads : goal.returns-in-Other-clause-leads
returns-in-Other-clause-leads c = c.sides.invariant.leads

pub returns-clause-within : goal.returns-clause-within
returns-clause-within c = c.sides.invariant.within

pub returns-clause-leads : goal.returns-clause-leads
returns-clause-leads c = c.sides.invariant.leads

pub slice_bounds-side_in_front-start : goal.slice_bounds-side_in_front-start
slice_bounds-side_in_front-start c = c.sides.invariant.within

pub slice_bounds-side_in_front-end : goal.slice_bounds-side_in_front-end
slice_bounds-side_in_front-end c = le_refl (length c.args.bytes.now)

pub overflow_add-taken : goal.overflow_add-taken
overflow_add-taken c =
    omega (
      arith,
      front_side_ends_within_the_bytes c.args.bracket c.args.bytes.now c.sides.taken c.in-Inner.side c.in-Inner.len false c.sides.invariant.within
          c.in-Inner.ensures,
    )

pub close_group-requires : goal.close_group-requires
close_group-requires c =
    subst (λ (g : Gathered). g.many ≡ false → 0 < length g.sides) (sym c.add_side-in-Last.ensures) (a_gathered_side_is_there c.in-Last.side c.sides.self)

pub overflow_add-result : goal.overflow_add-result
overflow_add-result c =
    omega (
      arith,
      front_side_ends_within_the_bytes c.args.bracket c.args.bytes.now c.sides.taken c.in-Last.side c.in-Last.len true c.sides.invariant.within
          c.in-Last.ensures,
    )
