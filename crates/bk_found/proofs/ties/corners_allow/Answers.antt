use Rattle.std.proofs.Common.{arith}
use Rattle.bk_found.proofs.ties.corners_allow.Goals as goal

pub returns-then-longest : goal.returns-then-longest
returns-then-longest c _ _ _ tied longest settled =
    omega (arith, c.if-longest.true, longest.top, longest.bottom, settled.level (tied.level c.if-ties-2.true))
