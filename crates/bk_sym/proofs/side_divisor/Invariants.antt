use Rattle.std.proofs.Common.{drop, map, ◌≡◌}
use Rattle.bk_frac.specs.Divisor.{gcd_of}
use Rattle.bk_tiling.specs.declared.Square.{Square}
use Rattle.bk_sym.proofs.side_divisor.Given as goal

abbrev pub invariant-loop-i : goal.invariant-loop-i
invariant-loop-i l = l.divisor ≡ gcd_of (map (λ (q : Square). q.s) (drop l.i l.squares))
