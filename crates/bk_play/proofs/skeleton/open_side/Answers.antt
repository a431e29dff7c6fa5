use Rattle.std.proofs.Common.{rules}
use Rattle.bk_play.proofs.skeleton.open_side.Goals as goal

pub returns-else-wall : goal.returns-else-wall
returns-else-wall c = search rules
