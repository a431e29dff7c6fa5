use Rattle.std.proofs.Common.{rules}
use Rattle.bk_report.proofs.refusal.write_refused.Goals as goal

pub returns : goal.returns
returns c = search rules
