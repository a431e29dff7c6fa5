use Rattle.std.proofs.Common.{take, ◌≡◌}
use Rattle.bk_skel.specs.PartlyLaid.{columns_of}
use Rattle.bk_skel.proofs.placing.columns_over.Given as goal

abbrev pub invariant-loop-number : goal.invariant-loop-number
invariant-loop-number l = l.columns ≡ columns_of l.laid (take l.number-index l.numbers)
