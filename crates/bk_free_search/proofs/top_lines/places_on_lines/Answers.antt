use Rattle.std.proofs.Common.{arith}
use Rattle.bk_free_search.proofs.top_lines.places_on_lines.Goals as goal

pub ends-init : goal.ends-init
ends-init c = λ j has. absurd (c.no_line-places.ensures j has)

pub with_place-places-requires : goal.with_place-places-requires
with_place-places-requires c = omega (arith, c.ends-test.true, c.requires.few)

pub on_line-requires-clause-least : goal.on_line-requires-clause-least
on_line-requires-clause-least c = (c.requires.squares c.ends.place (omega (arith, c.ends-test.true))).0

pub on_line-requires-clause-most : goal.on_line-requires-clause-most
on_line-requires-clause-most c = (c.requires.squares c.ends.place (omega (arith, c.ends-test.true))).1

pub returns : goal.returns
returns c = c.ends.invariant
