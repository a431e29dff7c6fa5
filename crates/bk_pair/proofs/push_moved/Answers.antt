use Rattle.std.proofs.Common.{List, ap, arith, length}
use Rattle.bk_laws.proofs.ListParts.{pushed_all, pushed_more}
use Rattle.bk_tiling.specs.declared.Square.{Square}
use Rattle.bk_tiling.specs.Scale.{moved_square}
use Rattle.bk_pair.proofs.LaidSquares.{small_place}
use Rattle.bk_pair.proofs.push_moved.Goals as goal

pub overflow_add-q : goal.overflow_add-q
overflow_add-q c =
    let p = rw (← c.squares-q-items.ensures.value) at (small_place c.args.tiling.now c.loop-q.q-index (record { x = 0; y = 0; s = 0 })
    c.squares-q-items.ensures.kept
    (omega (arith, ap (λ (l : List Square). length l) c.squares-q-items.ensures.value))) in
    omega (arith, p.0)

pub overflow_add-q-in-loop-q : goal.overflow_add-q-in-loop-q
overflow_add-q-in-loop-q c =
    let p = rw (← c.squares-q-items.ensures.value) at (small_place c.args.tiling.now c.loop-q.q-index (record { x = 0; y = 0; s = 0 })
    c.squares-q-items.ensures.kept
    (omega (arith, ap (λ (l : List Square). length l) c.squares-q-items.ensures.value))) in
    omega (arith, p.1)

pub loop-q-preserved : goal.loop-q-preserved
loop-q-preserved c = record {
  pushed =
      pushed_more c.squares-q-items.result.now c.loop-q.q-index _ (moved_square c.args.right c.args.down) c.args.squares.now.items
      c.loop-q.squares.items c.push.new.self.items
      c.loop-q-test.true c.push.ensures.items c.loop-q.invariant.pushed;
  many = omega (arith, c.push.ensures.len, c.loop-q.invariant.many);
}

pub returns : goal.returns
returns c =
    pushed_all c.squares-q-items.result.now c.args.tiling.now.squares c.loop-q.q-index (moved_square c.args.right c.args.down) c.args.squares.now.items
    c.loop-q.squares.items
    c.loop-q-test.false c.squares-q-items.ensures.value c.loop-q.invariant.pushed
