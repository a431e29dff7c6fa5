use Rattle.std.proofs.Common.{arith}
use Rattle.bk_tiling.proofs.OneRefusal.{kept_from, only_refused, tiles_apart}
use Rattle.bk_tiling.proofs.Tiling.try_become.Goals as goal

pub returns-in-Some-clause-accepted : goal.returns-in-Some-clause-accepted
returns-in-Some-clause-accepted c = only_refused c.args.width c.args.height c.args.squares.now c.in-Some.refusal c.in-Some.ensures.some

pub replace_in_order-requires-clause-apart : goal.replace_in_order-requires-clause-apart
replace_in_order-requires-clause-apart c = tiles_apart c.args.width c.args.height c.args.squares.now (c.in_default.ensures.none).tiles

pub invariant_of-self : goal.invariant_of-self
invariant_of-self c = kept_from c.args.width c.args.height c.args.squares.now c.replace_in_order.new.kept.items (omega arith) (omega arith)
    c.in_default.ensures.none c.replace_in_order.ensures
