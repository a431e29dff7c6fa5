use Rattle.std.proofs.Common.{rules}
use Rattle.bk_found.proofs.levels.line_place.Goals as goal

pub returns-in-1 : goal.returns-in-1
returns-in-1 c = search rules
