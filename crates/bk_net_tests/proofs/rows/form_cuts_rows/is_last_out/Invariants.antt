use Rattle.bk_walk_cuts.specs.Trace.{IsTraceOf}
use Rattle.bk_net_tests.proofs.rows.form_cuts_rows.is_last_out.Given as goal

abbrev pub invariant-loop-i : goal.invariant-loop-i
invariant-loop-i l = IsTraceOf l.skel l.sides
