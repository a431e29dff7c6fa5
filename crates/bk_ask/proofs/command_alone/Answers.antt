-- A name that no command has asks nothing, and neither does that of a command that needs an option.
use Rattle.std.proofs.Common.{[], arith, refl, ◌≡◌}
use Rattle.bk_ask.proofs.Unasked.{asks_alone, no_listing, no_trial, no_verify, nothing_alone}
use Rattle.bk_ask.specs.Asked.{OptionsSay, command_name}
use Rattle.bk_ask.specs.declared.Ask.{Ask}
use Rattle.bk_ask.specs.declared.Ask.TheVariants as asks
use Rattle.bk_ask.proofs.command_alone.Goals as goal

pub returns-in_default-clause-none : goal.returns-in_default-clause-none
returns-in_default-clause-none c = nothing_alone c.args.name.now none
  where
    none : (ask : Ask) → c.args.name.now ≡ command_name ask → OptionsSay [] ask → ⊥
    none (asks.List order class from limit) named say = no_listing order class from limit say
    none (asks.Trial seed count) named say = no_trial seed count say
    none (asks.Verify order) named say = no_verify order say
    none (asks.Pair kind) named say = c.requires named
    none _ named say = grind (arith, c.in_default, named)

pub returns-in-help-clause-some : goal.returns-in-help-clause-some
returns-in-help-clause-some c = asks_alone c.args.name.now asks.Help c.in-help.is refl
