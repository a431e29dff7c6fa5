use Rattle.bk_catalogue.proofs.HangingBounds.LineCounting.{IsLined}
use Rattle.bk_catalogue.proofs.lines.line_bound.Given as goal

abbrev pub invariant-loop-i : goal.invariant-loop-i
invariant-loop-i l = IsLined l.signs l.sizes l.ends l.lines l.i l.start l.most l.aboves
