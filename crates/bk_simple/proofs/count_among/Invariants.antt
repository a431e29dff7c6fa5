use Rattle.bk_simple.proofs.Counting.{IsCountTo}
use Rattle.bk_simple.specs.Border.{rectangle_of}
use Rattle.bk_simple.proofs.count_among.Given as goal

abbrev pub invariant-loop-q : goal.invariant-loop-q
invariant-loop-q l = IsCountTo (rectangle_of l.r) l.squares l.q-index l.inside
