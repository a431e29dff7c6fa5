use Rattle.std.proofs.lemmas.Grind.{common_steps}
use Rattle.std.proofs.Common.{arith, map, string_bytes}
use Rattle.bk_ask.proofs.KnownNames.{test_decides_known}
use Rattle.bk_ask.proofs.OptionSteps.{stand_end}
use Rattle.bk_ask.proofs.options.are_options.Goals as goal

pub returns : goal.returns
returns c =
    stand_end (map (λ name. name.now) c.args.names.now) (map string_bytes c.args.words.now) c.options.left.now c.is_empty.result
    c.in_default.len_below c.is_empty.ensures c.options.invariant

pub options-preserved : goal.options-preserved
options-preserved c =
    let known = test_decides_known c.args.names.now c.as_str.result.now c.contains.result c.contains.ensures.value in
    grind (arith, common_steps)

pub returns-then-not-contains : goal.returns-then-not-contains
returns-then-not-contains c =
    let known = test_decides_known c.args.names.now c.as_str.result.now c.contains.result c.contains.ensures.value in
    grind (arith, common_steps)
