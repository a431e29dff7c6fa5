use Rattle.std.proofs.Common.{rules}
use Rattle.bk_top.proofs.exit.arguments_of.Goals as goal

pub returns-clause-words : goal.returns-clause-words
returns-clause-words g = search rules

pub returns-clause-wanting : goal.returns-clause-wanting
returns-clause-wanting g c = search rules
