use Rattle.std.proofs.Common.{map, take, ◌≡◌}
use Rattle.bk_dual.specs.Dual.{number_at}
use Rattle.bk_dual.proofs.dual_order.Given as goal

abbrev pub invariant-loop-q : goal.invariant-loop-q
invariant-loop-q l = l.numbers.items ≡ map (λ q. number_at l.tiling q.y q.x) (take l.q-index l.q-items)
