use Rattle.std.proofs.Common.{arith, ◌∙◌}
use Rattle.bk_skel.proofs.PlacingEnd.{apart, first_open, height_as, kept_as, known_as, sides}
use Rattle.bk_skel.proofs.placing.close.Goals as goal

pub bounds-numbers-0 : goal.bounds-numbers-0
bounds-numbers-0 c = omega (arith, (first_open c.args.width c.args.laid.now.items c.args.numbers.now c.requires.0 c.requires.1).0)

pub bottom_of-height-requires-clause-known : goal.bottom_of-height-requires-clause-known
bottom_of-height-requires-clause-known c =
    (known_as c.args.width c.args.laid.now.items c.args.numbers.now c.requires.0 c.requires.1 c.deref.result.now c.deref.ensures.0).0

pub bottom_of-height-requires-clause-low : goal.bottom_of-height-requires-clause-low
bottom_of-height-requires-clause-low c = (known_as c.args.width c.args.laid.now.items c.args.numbers.now c.requires.0 c.requires.1
    c.deref.result.now c.deref.ensures.0).1

pub put_in_order-requires-clause-sides : goal.put_in_order-requires-clause-sides
put_in_order-requires-clause-sides c = sides c.args.width c.args.laid.now.items c.args.numbers.now c.requires.0 c.requires.1

pub put_in_order-requires-clause-apart : goal.put_in_order-requires-clause-apart
put_in_order-requires-clause-apart c = apart c.args.width c.args.laid.now.items c.args.numbers.now c.requires.0 c.requires.1

pub become_known-requires : goal.become_known-requires
become_known-requires c = kept_as c.args.width c.args.laid.now.items c.args.numbers.now c.requires.0 c.requires.1 c.bottom_of-height.result
    c.as_slice.result.now (height_as c.args.width c.args.laid.now.items c.args.numbers.now c.requires.0 c.requires.1
    c.deref.result.now c.bottom_of-height.result c.deref.ensures.0 c.bottom_of-height.ensures) (c.as_slice.ensures.value ∙ c.put_in_order.ensures)

pub returns : goal.returns
returns c = c.become_known.ensures ∙ (λ i. record {
  width = c.args.width;
  height =
      (height_as c.args.width c.args.laid.now.items c.args.numbers.now c.requires.0 c.requires.1 c.deref.result.now c.bottom_of-height.result
      c.deref.ensures.0 c.bottom_of-height.ensures) i;
  squares = (c.as_slice.ensures.value ∙ c.put_in_order.ensures) i;
})
