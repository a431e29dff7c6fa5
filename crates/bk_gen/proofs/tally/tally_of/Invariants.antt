use Rattle.bk_gen.specs.TrialLine.{IsTrialTally}
use Rattle.bk_gen.proofs.tally.tally_of.Given as goal

abbrev pub invariant-loop-k : goal.invariant-loop-k
invariant-loop-k l = IsTrialTally l.seed l.k l.counts
