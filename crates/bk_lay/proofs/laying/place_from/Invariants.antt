use Rattle.std.proofs.Common.{count_by, length, ◌-◌, ◌≤◌}
use Rattle.bk_tiling.specs.CodeOrder.{comes_before}
use Rattle.bk_lay.specs.LevelRuns.{corner}
use Rattle.bk_lay.proofs.laying.place_from.Given as goal

abbrev pub invariant-squares : goal.invariant-squares
invariant-squares l = l.place ≤ count_by (λ q. comes_before q (corner l.x l.level)) l.squares

abbrev pub decreases-squares : goal.decreases-squares
decreases-squares l = length l.squares - l.place
