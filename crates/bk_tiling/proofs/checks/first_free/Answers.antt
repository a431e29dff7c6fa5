use Rattle.bk_tiling.proofs.Sweeping.{levels_more}
use Rattle.bk_tiling.proofs.checks.first_free.Goals as goal

pub levels-preserved : goal.levels-preserved
levels-preserved c = levels_more c.args.width c.args.squares.now c.levels.y c.in-Covered.until c.levels.invariant c.in-Covered.ensures.1
