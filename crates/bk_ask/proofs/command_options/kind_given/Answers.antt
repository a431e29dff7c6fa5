use Rattle.std.proofs.Common.{codes, map, string_bytes}
use Rattle.bk_laws.proofs.Outcomes.{if_none-weaken}
use Rattle.bk_ask.specs.OptionValues.{IsKindName}
use Rattle.bk_ask.specs.Options.{options_in}
use Rattle.bk_pair.specs.declared.Kind.TheVariants.{Perfect}
use Rattle.bk_ask.proofs.OptionLaws.{no_meaning_or}
use Rattle.bk_ask.proofs.command_options.kind_given.Goals as goal

pub returns-in-Some-clause-none : goal.returns-in-Some-clause-none
returns-in-Some-clause-none c =
    if_none-weaken c.kind_named.result _ _
    (no_meaning_or (options_in (map string_bytes c.args.options.now)) (codes "--kind") c.in-Some.name.now IsKindName Perfect c.requires c.in-Some.ensures.some)
    c.kind_named.ensures.none
