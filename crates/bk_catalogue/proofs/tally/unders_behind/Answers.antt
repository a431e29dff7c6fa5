-- What is under behind the place is what passes the filter.
use Rattle.std.proofs.Common.{arith, ap, count_by, drop, inl, length, rules, sym, tests, ◌+◌, ◌-◌, ◌∙◌}
use Rattle.std.proofs.lemmas.List.{at_drop_all, length-drop, take_all}
use Rattle.std.proofs.lemmas.List.Sums.{length-filter}
use Rattle.std.proofs.lemmas.Iterator.{YieldsList-from_slice}
use Rattle.std.proofs.lemmas.Iterator.Consumers.{YieldsList-at, YieldsList-from_filter, count_from_yields_List}
use Rattle.bk_word.specs.Signs.{is_under}
use Rattle.bk_catalogue.proofs.tally.unders_behind.Goals as goal

pub returns-then-place-signs : goal.returns-then-place-signs
returns-then-place-signs c = sym (at_drop_all (count_by is_under) c.args.signs.now (c.args.place + 1) (omega (arith, c.if-place-signs.true)))

pub overflow_add-place : goal.overflow_add-place
overflow_add-place c = omega arith

pub slice_bounds-iter-count : goal.slice_bounds-iter-count
slice_bounds-iter-count c = omega arith

pub slice_bounds-iter-start : goal.slice_bounds-iter-start
slice_bounds-iter-start c = omega arith

pub slice_bounds-iter-end : goal.slice_bounds-iter-end
slice_bounds-iter-end c = omega arith

pub count-requires-clause-fits : goal.count-requires-clause-fits
count-requires-clause-fits c = inl (omega (arith, ap (λ i. length i.rest.now) c.filter.ensures.source, c.iter.ensures.bound))

pub returns : goal.returns
returns c =
    let rest_is = c.iter.ensures.rest ∙ take_all (length c.args.signs.now - (c.args.place + 1)) (drop (c.args.place + 1) c.args.signs.now)
    (omega (arith, length-drop (c.args.place + 1) c.args.signs.now)) in
    count_from_yields_List c.filter.result c.count.result c.count.ensures.ran
    (YieldsList-from_filter _ is_under (YieldsList-at c.filter.ensures.source (YieldsList-from_slice (drop (c.args.place + 1) c.args.signs.now) rest_is))
    c.filter.ensures.closure (λ x r q k. search (rules, tests)))
    ∙ length-filter is_under (drop (c.args.place + 1) c.args.signs.now)
