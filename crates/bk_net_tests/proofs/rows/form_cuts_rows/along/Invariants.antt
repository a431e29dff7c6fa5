use Rattle.bk_walk_cuts.specs.Trace.{IsTraceOf}
use Rattle.bk_net_tests.proofs.rows.form_cuts_rows.along.Given as goal

abbrev pub invariant-loop-count : goal.invariant-loop-count
invariant-loop-count l = IsTraceOf l.skel l.sides
