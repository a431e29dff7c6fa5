use Rattle.std.proofs.Common.{rules}
use Rattle.bk_text.proofs.gatherer.Gatherer.finish.Goals as goal

pub returns-in-Row : goal.returns-in-Row
returns-in-Row c = search rules

pub returns-in-Coded : goal.returns-in-Coded
returns-in-Coded c = search rules
