use Rattle.std.proofs.Common.{arith}
use Rattle.bk_tiling.proofs.OneRefusal.{kept_from, only_refused, tiles_apart}
use Rattle.bk_tiling.proofs.Tiling.try_new.Goals as goal

pub returns-in-Some-clause-accepted : goal.returns-in-Some-clause-accepted
returns-in-Some-clause-accepted c = only_refused c.args.width c.args.height c.args.squares.now c.in-Some.refusal c.in-Some.ensures.some

pub in_order-requires-clause-apart : goal.in_order-requires-clause-apart
in_order-requires-clause-apart c = tiles_apart c.args.width c.args.height c.args.squares.now (c.in_default.ensures.none).tiles

pub invariant_of-result : goal.invariant_of-result
invariant_of-result c =
    kept_from c.args.width c.args.height c.args.squares.now c.in_order.result.items (omega arith) (omega arith) c.in_default.ensures.none c.in_order.ensures
