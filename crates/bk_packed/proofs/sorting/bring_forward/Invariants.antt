use Rattle.bk_packed.proofs.BroughtForward.{IsBrought}
use Rattle.bk_packed.proofs.sorting.bring_forward.Given as goal

abbrev pub invariant-numbers : goal.invariant-numbers
invariant-numbers l = IsBrought l.fn.numbers l.numbers l.count l.i
