use Rattle.std.proofs.Common.{arith}
use Rattle.bk_code.proofs.Storing.{group_at, group_last, starts_at, starts_to}
use Rattle.bk_code.proofs.bounds.Goals as goal

pub returns-then-g-starts-clause-part : goal.returns-then-g-starts-clause-part
returns-then-g-starts-clause-part c = group_at c.args.starts.now c.args.sides.now c.args.g c.requires.rise c.if-g-starts.true

pub returns-then-g-starts-clause-order : goal.returns-then-g-starts-clause-order
returns-then-g-starts-clause-order c = omega (arith, (starts_at c.args.starts.now _ c.args.g c.requires.rise c.if-g-starts.true).0)

pub returns-then-g-starts-clause-within : goal.returns-then-g-starts-clause-within
returns-then-g-starts-clause-within c = omega (arith, (starts_at c.args.starts.now _ c.args.g c.requires.rise c.if-g-starts.true).1)

pub returns-else-g-starts-clause-part : goal.returns-else-g-starts-clause-part
returns-else-g-starts-clause-part c =
    group_last c.args.starts.now c.args.sides.now c.args.g c.requires.rise (omega (arith, c.requires.place, c.if-g-starts.false))

pub returns-else-g-starts-clause-order : goal.returns-else-g-starts-clause-order
returns-else-g-starts-clause-order c = omega (arith, starts_to c.args.starts.now _ c.args.g c.requires.rise c.requires.place)
