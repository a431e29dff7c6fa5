use Rattle.std.proofs.Common.{rules}
use Rattle.bk_list.proofs.entries.is_reached.Goals as goal

pub returns-in-Some-clause-yes : goal.returns-in-Some-clause-yes
returns-in-Some-clause-yes c = search rules

pub returns-in-Some-clause-no : goal.returns-in-Some-clause-no
returns-in-Some-clause-no c = search rules
