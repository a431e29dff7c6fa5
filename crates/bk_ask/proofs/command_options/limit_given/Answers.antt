use Rattle.std.proofs.Common.{codes, map, string_bytes}
use Rattle.bk_laws.proofs.Outcomes.{if_none-intro, if_some-of_none}
use Rattle.bk_ask.specs.OptionValues.{IsLimit}
use Rattle.bk_ask.specs.Options.{options_in}
use Rattle.bk_ask.proofs.OptionLaws.{no_meaning}
use Rattle.bk_ask.proofs.command_options.limit_given.Goals as goal

pub returns-in_err-number_within-in-Some-clause-none : goal.returns-in_err-number_within-in-Some-clause-none
returns-in_err-number_within-in-Some-clause-none c =
    if_none-intro c.from_residual.result _
    (no_meaning (options_in (map string_bytes c.args.options.now)) (codes "--limit") c.in-Some.text.now IsLimit c.requires c.in-Some.ensures.some
    c.in_err-number_within-in-Some.ensures.none)

pub returns-in_err-number_within-in-Some-clause-some : goal.returns-in_err-number_within-in-Some-clause-some
returns-in_err-number_within-in-Some-clause-some c = if_some-of_none c.from_residual.result _ c.from_residual.ensures

pub returns-in_ok-number_within-in-Some-clause-some : goal.returns-in_ok-number_within-in-Some-clause-some
returns-in_ok-number_within-in-Some-clause-some c =
    record { value = c.in-Some.text.now; stands = c.in-Some.ensures.some; means = c.in_ok-number_within-in-Some.ensures.some }

pub returns-in-None-clause-some : goal.returns-in-None-clause-some
returns-in-None-clause-some c = c.in-None.ensures.none
