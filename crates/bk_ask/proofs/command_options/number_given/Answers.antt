-- The value of the option is read as a number, and without it there is none.
use Rattle.std.proofs.Common.{map, string_bytes}
use Rattle.bk_laws.proofs.Outcomes.{if_none-intro, if_none-weaken, if_some-of_none}
use Rattle.bk_ask.specs.OptionValues.{IsNumberWithin}
use Rattle.bk_ask.specs.Options.{options_in}
use Rattle.bk_ask.proofs.OptionLaws.{left_out_option_has_no_value, not_given}
use Rattle.std.proofs.lemmas.Option.{IfSome_then}
use Rattle.bk_ask.proofs.command_options.number_given.Goals as goal

pub returns-clause-none : goal.returns-clause-none
returns-clause-none c =
    if_none-weaken c.number_within.result _ _
    (not_given (options_in (map string_bytes c.args.options.now)) c.args.name.now c.in_ok-value_of.field-0.now (IsNumberWithin c.args.least c.args.most)
    c.requires c.in_ok-value_of.ensures.some)
    c.number_within.ensures.none

pub returns-clause-some : goal.returns-clause-some
returns-clause-some c =
    IfSome_then c.number_within.result c.number_within.ensures.some
    (λ n is. record { value = c.in_ok-value_of.field-0.now; stands = c.in_ok-value_of.ensures.some; means = is })

pub returns-in_err-value_of-clause-none : goal.returns-in_err-value_of-clause-none
returns-in_err-value_of-clause-none c =
    if_none-intro c.from_residual.result _
    (λ n given. left_out_option_has_no_value (options_in (map string_bytes c.args.options.now)) c.args.name.now given.value c.in_err-value_of.ensures.none
    given.stands)

pub returns-in_err-value_of-clause-some : goal.returns-in_err-value_of-clause-some
returns-in_err-value_of-clause-some c = if_some-of_none c.from_residual.result _ c.from_residual.ensures
