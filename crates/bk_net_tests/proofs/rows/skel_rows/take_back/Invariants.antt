use Rattle.std.proofs.Common.{length}
use Rattle.bk_net_tests.proofs.rows.skel_rows.take_back.Given as goal

abbrev pub decreases-loop-skel : goal.decreases-loop-skel
decreases-loop-skel l = length l.skel
