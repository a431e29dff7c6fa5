use Rattle.std.proofs.Common.{take, ◌≡◌}
use Rattle.bk_code.proofs.GroupSteps.{side_groups}
use Rattle.bk_code.proofs.Code.become_that_of.Given as goal

abbrev pub invariant-loop-i : goal.invariant-loop-i
invariant-loop-i l = l.self ≡ side_groups (take l.i l.squares)
