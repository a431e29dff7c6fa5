use Rattle.std.proofs.Common.{arith}
use Rattle.bk_pair.proofs.SmallSides.{no_sides, side_bits_with_one_square_more}
use Rattle.bk_pair.proofs.kept.small_sides.Goals as goal

pub loop-q-init : goal.loop-q-init
loop-q-init c = no_sides c.args.squares.now

pub loop-q-preserved : goal.loop-q-preserved
loop-q-preserved c =
    side_bits_with_one_square_more c.args.squares.now c.loop-q.q-index c.loop-q.small c.with_side-small.result
    (omega arith) c.loop-q.invariant c.with_side-small.ensures
