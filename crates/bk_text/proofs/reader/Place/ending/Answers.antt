use Rattle.std.proofs.Common.{rules}
use Rattle.bk_text.proofs.reader.Place.ending.Goals as goal

pub returns-in-Start : goal.returns-in-Start
returns-in-Start c = search rules
