use Rattle.std.proofs.Common.{ap, length}
use Rattle.bk_play.proofs.skeleton.Skel.valley_len.Goals as goal

pub returns : goal.returns
returns c = ap length c.valley_squares.ensures
