use Rattle.std.proofs.Common.{arith, ◌∙◌}
use Rattle.bk_gen.proofs.MovedFront.{all_moved_front, next_fits, one_more_moved}
use Rattle.bk_gen.proofs.growing.move_all.Goals as goal

pub overflow_add-q : goal.overflow_add-q
overflow_add-q c = omega (
  arith,
  (next_fits c.args.right c.args.down c.loop-q.q-index c.args.squares.now c.loop-q.squares (record { x = 0; y = 0; s = 0 })
      c.loop-q.invariant c.loop-q-test.true c.requires).0,
)

pub overflow_add-q-in-loop-q : goal.overflow_add-q-in-loop-q
overflow_add-q-in-loop-q c = omega (
  arith,
  (next_fits c.args.right c.args.down c.loop-q.q-index c.args.squares.now c.loop-q.squares (record { x = 0; y = 0; s = 0 }) c.loop-q.invariant
      c.loop-q-test.true c.requires).1,
)

pub loop-q-preserved : goal.loop-q-preserved
loop-q-preserved c = one_more_moved c.args.right c.args.down c.loop-q.q-index c.args.squares.now c.loop-q.squares (record { x = 0; y = 0; s = 0 })
    c.loop-q.invariant c.loop-q-test.true

pub returns : goal.returns
returns c = c.loop-q.invariant ∙ all_moved_front c.args.right c.args.down c.loop-q.q-index c.args.squares.now c.loop-q-test.false
