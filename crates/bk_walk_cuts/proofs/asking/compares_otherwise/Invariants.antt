use Rattle.bk_walk_cuts.proofs.MoveAnswers.{NoneIsOther}
use Rattle.bk_walk_cuts.proofs.asking.compares_otherwise.Given as goal

abbrev pub invariant-loop-i : goal.invariant-loop-i
invariant-loop-i l = NoneIsOther l.ledger l.levels l.signs l.i
