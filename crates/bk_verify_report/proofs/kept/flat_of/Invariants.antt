use Rattle.std.proofs.Common.{map, take, ◌≡◌}
use Rattle.bk_verify_report.proofs.kept.flat_of.Given as goal

abbrev pub invariant-loop-q : goal.invariant-loop-q
invariant-loop-q l = l.sides.items ≡ map (λ q. q.s) (take l.q-index l.q-items)
