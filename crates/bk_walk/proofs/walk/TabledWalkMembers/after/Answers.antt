-- The members after a word are those of a new walk.
use Rattle.std.proofs.Common.{tests}
use Rattle.bk_walk.proofs.walk.TabledWalkMembers.after.Goals as goal

pub returns : goal.returns
returns g c = c.new.ensures

pub new-requires : goal.new-requires
new-requires g c = (search tests, (c.requires.least, (c.requires.most, c.requires.few)))
