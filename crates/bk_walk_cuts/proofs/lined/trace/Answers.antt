use Rattle.bk_walk_cuts.proofs.Traces.{trace_on}
use Rattle.bk_walk_cuts.proofs.lined.trace.Goals as goal

pub returns-then-not-is_traced : goal.returns-then-not-is_traced
returns-then-not-is_traced c = trace_on c.args.skel.now c.args.m.now c.args.sides.now c.requires.trace
