-- Each option is read, and where one has no meaning nothing is asked.
use Rattle.std.proofs.Common.{false, map, refl, string_bytes, true, ◌≡◌}
use Rattle.bk_laws.proofs.Outcomes.{if_none-intro, if_some-of_none}
use Rattle.bk_ask.proofs.Unasked.{nothing_listed}
use Rattle.bk_ask.proofs.command_options.listing.Goals as goal

pub returns-in_err-order-clause-none : goal.returns-in_err-order-clause-none
returns-in_err-order-clause-none c =
    if_none-intro c.from_residual.result _
    (nothing_listed (map string_bytes c.args.options.now) (λ order class from limit l. c.in_err-order.ensures.none order l.has_order))

pub returns-in_err-class-clause-none : goal.returns-in_err-class-clause-none
returns-in_err-class-clause-none c =
    if_none-intro c.from_residual-in_err-class.result _
    (nothing_listed (map string_bytes c.args.options.now) (λ order class from limit l. c.in_err-class.ensures.none class l.has_class))

pub returns-then-not-are_options-clause-none : goal.returns-then-not-are_options-clause-none
returns-then-not-are_options-clause-none c =
    nothing_listed (map string_bytes c.args.options.now)
    (λ order class from limit asks. let known : false ≡ true = c.if-not-are_options.ensures.1 asks.options in cc)

pub order_given-requires : goal.order_given-requires
order_given-requires c = (c.if-not-are_options.ensures.0 refl).once

pub class_given-requires : goal.class_given-requires
class_given-requires c = (c.if-not-are_options.ensures.0 refl).once

pub cursor_given-requires : goal.cursor_given-requires
cursor_given-requires c = (c.if-not-are_options.ensures.0 refl).once

pub limit_given-requires : goal.limit_given-requires
limit_given-requires c = (c.if-not-are_options.ensures.0 refl).once

pub returns-in_err-order-clause-some : goal.returns-in_err-order-clause-some
returns-in_err-order-clause-some c = if_some-of_none c.from_residual.result _ c.from_residual.ensures

pub returns-in_err-class-clause-some : goal.returns-in_err-class-clause-some
returns-in_err-class-clause-some c = if_some-of_none c.from_residual-in_err-class.result _ c.from_residual-in_err-class.ensures

pub returns-in_err-from-clause-some : goal.returns-in_err-from-clause-some
returns-in_err-from-clause-some c = if_some-of_none c.from_residual-in_err-from.result _ c.from_residual-in_err-from.ensures

pub returns-in_err-limit-clause-some : goal.returns-in_err-limit-clause-some
returns-in_err-limit-clause-some c = if_some-of_none c.from_residual-in_err-limit.result _ c.from_residual-in_err-limit.ensures

pub returns-in_err-from-clause-none : goal.returns-in_err-from-clause-none
returns-in_err-from-clause-none c =
    if_none-intro c.from_residual-in_err-from.result _
    (nothing_listed (map string_bytes c.args.options.now) (λ order class from limit l. c.in_err-from.ensures.none from l.has_from))

pub returns-in_err-limit-clause-none : goal.returns-in_err-limit-clause-none
returns-in_err-limit-clause-none c =
    if_none-intro c.from_residual-in_err-limit.result _
    (nothing_listed (map string_bytes c.args.options.now) (λ order class from limit l. c.in_err-limit.ensures.none limit l.has_limit))

pub returns-clause-some : goal.returns-clause-some
returns-clause-some c = record {
  options = map string_bytes c.args.options.now;
  line = refl;
  say = record {
    options = c.if-not-are_options.ensures.0 refl;
    has_order = c.in_ok-order.ensures.some;
    has_class = c.in_ok-class.ensures.some;
    has_from = c.in_ok-from.ensures.some;
    has_limit = c.in_ok-limit.ensures.some;
  };
}
