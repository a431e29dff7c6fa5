use Rattle.std.proofs.Common.{rules}
use Rattle.bk_report.proofs.flow.push_whole.Goals as goal

pub returns-clause-text : goal.returns-clause-text
returns-clause-text c = search rules
