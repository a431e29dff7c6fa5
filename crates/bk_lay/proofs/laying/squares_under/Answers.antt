use Rattle.std.proofs.Common.{arith, drop, rules, take, ◌-◌, ◌∙◌, ◌≤◌}
use Rattle.bk_lay.proofs.CodePlaces.{range_is_under, range_order}
use Rattle.bk_lay.proofs.laying.squares_under.Goals as goal

pub place_from-end-requires-clause-known : goal.place_from-end-requires-clause-known
place_from-end-requires-clause-known c = omega (arith, c.place_in_order-first.ensures.count, range_order c.args.run c.requires.order c.args.squares.now)

pub slice_bounds-result-count : goal.slice_bounds-result-count
slice_bounds-result-count c = omega (
  arith,
  c.place_in_order-first.ensures.count,
  c.place_from-end.ensures.count,
  range_order c.args.run c.requires.order c.args.squares.now,
)

pub slice_bounds-result-start : goal.slice_bounds-result-start
slice_bounds-result-start c =
    let order : c.place_in_order-first.result ≤ c.place_from-end.result =
    omega (
      arith,
      c.place_in_order-first.ensures.count,
      c.place_from-end.ensures.count,
      range_order c.args.run c.requires.order c.args.squares.now,
    ) in
    search rules

pub returns : goal.returns
returns c = (λ i. take (c.place_from-end.ensures.count i - c.place_in_order-first.ensures.count i)
    (drop (c.place_in_order-first.ensures.count i) c.args.squares.now))
    ∙ range_is_under c.args.run c.requires.order c.args.squares.now c.requires.ordered
