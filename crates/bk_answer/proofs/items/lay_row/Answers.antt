-- What is stated of a table row is held against its sides and its tiling.
use Rattle.std.proofs.Common.{Some, arith, length, refl}
use Rattle.std.proofs.lemmas.Bool.{both_ways}
use Rattle.bk_text.specs.CodeLine.{Flat}
use Rattle.bk_answer.proofs.ItemSteps.{failed_laying, laid_of_size, refused_of_size, wrong_order}
use Rattle.bk_answer.proofs.items.lay_row.Goals as goal

pub returns-then-not-allows_order-clause-refused : goal.returns-then-not-allows_order-clause-refused
returns-then-not-allows_order-clause-refused c =
    wrong_order (Flat c.args.order c.args.size.0 c.args.size.1 c.args.sides.now) (length c.args.sides.now) refl
    (λ h. both_ways c.allows_order.result c.if-not-allows_order.true (c.allows_order.ensures.1 h))

pub returns-in-Ok-clause-laid : goal.returns-in-Ok-clause-laid
returns-in-Ok-clause-laid c =
    laid_of_size (Flat c.args.order c.args.size.0 c.args.size.1 c.args.sides.now) (Some c.args.size) c.lay_flat_in.new.tiling c.in-Ok.ensures.ok
    (c.allows_order.ensures.0 c.if-not-allows_order.false) (λ s. s) (λ s. s) c.of_size.result c.of_size.ensures.sized

pub returns-in-Ok-clause-refused : goal.returns-in-Ok-clause-refused
returns-in-Ok-clause-refused c =
    refused_of_size (Flat c.args.order c.args.size.0 c.args.size.1 c.args.sides.now) (Some c.args.size) c.lay_flat_in.new.tiling c.in-Ok.ensures.ok
    (c.allows_order.ensures.0 c.if-not-allows_order.false) (λ s. s) (λ s. s) c.of_size.result c.of_size.ensures.refused

pub returns-in-Err-clause-refused : goal.returns-in-Err-clause-refused
returns-in-Err-clause-refused c =
    failed_laying (Flat c.args.order c.args.size.0 c.args.size.1 c.args.sides.now) c.in-Err.refusal c.refused_for.result
    (c.allows_order.ensures.0 c.if-not-allows_order.false) c.in-Err.ensures.refused c.refused_for.ensures

pub lay_flat_in-requires-clause-wide : goal.lay_flat_in-requires-clause-wide
lay_flat_in-requires-clause-wide c = c.requires.1.0

pub lay_flat_in-requires-clause-narrow : goal.lay_flat_in-requires-clause-narrow
lay_flat_in-requires-clause-narrow c = omega (arith, c.requires.1.1)

pub lay_flat_in-requires-clause-some : goal.lay_flat_in-requires-clause-some
lay_flat_in-requires-clause-some c = c.requires.3

pub lay_flat_in-requires-clause-few : goal.lay_flat_in-requires-clause-few
lay_flat_in-requires-clause-few c = c.requires.4

pub lay_flat_in-requires-clause-sides : goal.lay_flat_in-requires-clause-sides
lay_flat_in-requires-clause-sides c = c.requires.5
