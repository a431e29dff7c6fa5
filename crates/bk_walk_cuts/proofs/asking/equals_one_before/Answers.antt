use Rattle.std.proofs.Common.{arith, ◌+◌, ◌<◌}
use Rattle.bk_walk_cuts.proofs.asking.equals_one_before.Goals as goal

pub returns-then-are_equal-clause-sound : goal.returns-then-are_equal-clause-sound
returns-then-are_equal-clause-sound c = λ sides meets apart.
    let one : c.args.i < c.args.i + 1 = omega arith in
    absurd (apart c.args.i c.loop-j.j c.loop-j-test.true one (c.are_equal.ensures.sound c.if-are_equal.true sides meets))
