use Rattle.std.proofs.Common.{rules}
use Rattle.bk_gen.proofs.trial_line.trial.Goals as goal

pub returns : goal.returns
returns c = search rules
