use Rattle.std.proofs.Common.{rules}
use Rattle.bk_play.proofs.counting.Steps.tick.Goals as goal

pub returns : goal.returns
returns g c = search rules
