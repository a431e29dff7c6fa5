use Rattle.std.proofs.Common.{codes, inr, map, refl, string_bytes}
use Rattle.bk_laws.proofs.Outcomes.{if_none-weaken}
use Rattle.bk_ask.specs.OptionValues.{IsClassName}
use Rattle.bk_ask.specs.Options.{options_in}
use Rattle.bk_word.specs.declared.Class.TheVariants.{Perfect}
use Rattle.bk_ask.proofs.OptionLaws.{no_meaning_or}
use Rattle.bk_ask.proofs.command_options.class_given.Goals as goal

pub returns-in-Some-clause-none : goal.returns-in-Some-clause-none
returns-in-Some-clause-none c =
    if_none-weaken c.class_named.result _ _
    (no_meaning_or (options_in (map string_bytes c.args.options.now)) (codes "--class") c.in-Some.name.now IsClassName Perfect
    c.requires c.in-Some.ensures.some)
    c.class_named.ensures.none

pub returns-in-None-clause-some : goal.returns-in-None-clause-some
returns-in-None-clause-some c = inr (c.in-None.ensures.none, refl)
