use Rattle.std.proofs.Common.{ap, arith}
use Rattle.bk_word.specs.Word.{Move}
use Rattle.bk_walk_cuts.proofs.Traces.{trace_on}
use Rattle.bk_walk_cuts.proofs.tracing.Tracing.push.Goals as goal

pub returns-then-order-from-ge-FOLLOWED-clause-trace : goal.returns-then-order-from-ge-FOLLOWED-clause-trace
returns-then-order-from-ge-FOLLOWED-clause-trace c = trace_on c.args.skel.now c.args.m.now c.args.self.now c.requires.trace

pub returns-then-not-follows-clause-trace : goal.returns-then-not-follows-clause-trace
returns-then-not-follows-clause-trace c = trace_on c.args.skel.now c.args.m.now c.args.self.now c.requires.trace

pub returns-then-order-from-ge-FOLLOWED-clause-followed : goal.returns-then-order-from-ge-FOLLOWED-clause-followed
returns-then-order-from-ge-FOLLOWED-clause-followed c all few = absurd (omega (
  arith,
  few,
  c.if-order-from-ge-FOLLOWED.true,
  c.order.ensures.value,
  c.from.ensures,
  ap (λ (m : Move). m.count) c.m.view_is,
))

pub returns-then-not-follows-clause-followed : goal.returns-then-not-follows-clause-followed
returns-then-not-follows-clause-followed c all few = absurd (c.follows.ensures.no c.if-not-follows.true all (omega (arith, few)))

pub push_followed-requires-clause-trace : goal.push_followed-requires-clause-trace
push_followed-requires-clause-trace c = c.requires.trace

pub push_followed-requires-clause-legal : goal.push_followed-requires-clause-legal
push_followed-requires-clause-legal c = c.requires.legal

pub push_followed-requires-clause-all : goal.push_followed-requires-clause-all
push_followed-requires-clause-all c = c.follows.ensures.all c.if-not-follows.false

pub push_followed-requires-clause-few : goal.push_followed-requires-clause-few
push_followed-requires-clause-few c = c.follows.ensures.few c.if-not-follows.false

pub returns-clause-trace : goal.returns-clause-trace
returns-clause-trace c = c.push_followed.ensures.trace

pub returns-clause-followed : goal.returns-clause-followed
returns-clause-followed c all few = c.push_followed.ensures.followed
