use Rattle.std.proofs.Common.{rules}
use Rattle.bk_answer.proofs.plain.write_canonical.Goals as goal

pub returns : goal.returns
returns c = search rules
