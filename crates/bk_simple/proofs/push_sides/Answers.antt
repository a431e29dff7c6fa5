use Rattle.std.proofs.Common.{arith}
use Rattle.bk_laws.proofs.ListParts.{pushed_all, pushed_more}
use Rattle.bk_simple.proofs.push_sides.Goals as goal

pub loop-q-preserved : goal.loop-q-preserved
loop-q-preserved c = record {
  pushed =
      pushed_more c.squares-q-items.result.now c.loop-q.q-index _ (λ q. q.s) c.args.sides.now.items c.loop-q.sides.items c.push.new.self.items
      c.loop-q-test.true c.push.ensures.items c.loop-q.invariant.pushed;
  many = omega (arith, c.push.ensures.len, c.loop-q.invariant.many);
}

pub returns : goal.returns
returns c =
    pushed_all c.squares-q-items.result.now c.args.tiling.now.squares c.loop-q.q-index (λ q. q.s) c.args.sides.now.items c.loop-q.sides.items
    c.loop-q-test.false c.squares-q-items.ensures.value c.loop-q.invariant.pushed
