use Rattle.std.proofs.Common.{map, take, ◌/◌, ◌≡◌}
use Rattle.bk_tiling.specs.declared.Square.{Square}
use Rattle.bk_sym.proofs.scale_down.Given as goal

abbrev pub invariant-loop-q : goal.invariant-loop-q
invariant-loop-q l = l.squares.items ≡ map (λ (q : Square). record { x = q.x / l.divisor; y = q.y / l.divisor; s = q.s / l.divisor }) (take l.q-index l.q-items)
