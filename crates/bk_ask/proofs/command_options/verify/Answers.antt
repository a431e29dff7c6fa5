use Rattle.std.proofs.Common.{false, map, refl, string_bytes, true, ◌≡◌}
use Rattle.bk_laws.proofs.Outcomes.{if_none-intro}
use Rattle.bk_ask.proofs.Unasked.{nothing_verified}
use Rattle.bk_ask.proofs.command_options.verify.Goals as goal

pub returns-in_err-order-clause-none : goal.returns-in_err-order-clause-none
returns-in_err-order-clause-none c =
    if_none-intro c.from_residual.result _
    (nothing_verified (map string_bytes c.args.options.now) (λ order v. c.in_err-order.ensures.none order v.has_order))

pub returns-then-not-are_options-clause-none : goal.returns-then-not-are_options-clause-none
returns-then-not-are_options-clause-none c =
    nothing_verified (map string_bytes c.args.options.now) (λ order asks. let known : false ≡ true = c.if-not-are_options.ensures.1 asks.options in cc)

pub order_given-requires : goal.order_given-requires
order_given-requires c = (c.if-not-are_options.ensures.0 refl).once
