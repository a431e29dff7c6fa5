-- Both numbers are read, and where one has no meaning nothing is asked.
use Rattle.std.proofs.Common.{arith, false, map, refl, string_bytes, true, ◌≡◌}
use Rattle.bk_laws.proofs.Outcomes.{if_none-intro, if_some-of_none}
use Rattle.bk_ask.proofs.Unasked.{nothing_tried}
use Rattle.bk_ask.proofs.command_options.trial.Goals as goal

pub returns-in_err-seed-clause-none : goal.returns-in_err-seed-clause-none
returns-in_err-seed-clause-none c =
    if_none-intro c.from_residual.result _
    (nothing_tried (map string_bytes c.args.options.now) (λ seed count t. c.in_err-seed.ensures.none seed t.has_seed))

pub returns-in_err-count-clause-none : goal.returns-in_err-count-clause-none
returns-in_err-count-clause-none c =
    if_none-intro c.from_residual-in_err-count.result _
    (nothing_tried (map string_bytes c.args.options.now) (λ seed count t. c.in_err-count.ensures.none count t.has_count))

pub returns-then-not-are_options-clause-none : goal.returns-then-not-are_options-clause-none
returns-then-not-are_options-clause-none c =
    nothing_tried (map string_bytes c.args.options.now) (λ seed count asks. let known : false ≡ true = c.if-not-are_options.ensures.1 asks.options in cc)

pub number_given-requires : goal.number_given-requires
number_given-requires c = (c.if-not-are_options.ensures.0 refl).once

pub returns-in_err-seed-clause-some : goal.returns-in_err-seed-clause-some
returns-in_err-seed-clause-some c = if_some-of_none c.from_residual.result _ c.from_residual.ensures

pub returns-in_err-count-clause-some : goal.returns-in_err-count-clause-some
returns-in_err-count-clause-some c = if_some-of_none c.from_residual-in_err-count.result _ c.from_residual-in_err-count.ensures

pub number_given-requires-2 : goal.number_given-requires-2
number_given-requires-2 c = (c.if-not-are_options.ensures.0 refl).once

pub overflow_cast-count : goal.overflow_cast-count
overflow_cast-count c = omega (arith, c.in_ok-count.ensures.some.means.at_most)

pub returns-clause-some : goal.returns-clause-some
returns-clause-some c = record {
  options = map string_bytes c.args.options.now;
  line = refl;
  say = record { options = c.if-not-are_options.ensures.0 refl; has_seed = c.in_ok-seed.ensures.some; has_count = c.in_ok-count.ensures.some };
}
