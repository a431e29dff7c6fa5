use Rattle.bk_gen.proofs.UnderWay.{IsUnderWay}
use Rattle.bk_gen.proofs.grown.Given as goal

abbrev pub invariant-loop-step : goal.invariant-loop-step
invariant-loop-step l = IsUnderWay l.v l.step-end l.step l.initial.growing l.growing
