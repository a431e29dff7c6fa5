use Rattle.std.proofs.Common.{arith, sym, ◌∙◌, ◌≡◌}
use Rattle.bk_tiling.specs.declared.Square.{Square}
use Rattle.bk_sym.proofs.Comparing.{one_from}
use Rattle.bk_sym.proofs.ScaledDown.{side_divisor, some_divisor}
use Rattle.bk_sym.proofs.side_divisor.Goals as goal

pub returns-then-divisor-eq1-clause-value : goal.returns-then-divisor-eq1-clause-value
returns-then-divisor-eq1-clause-value c =
    let d : Square = record { x = 0; y = 0; s = 0 } in
    sym (rw c.squares-squares.ensures.value at (one_from c.loop-i.i c.loop-i.divisor c.squares-squares.result.now d c.loop-i-test.true c.loop-i.auto.i
    c.loop-i.invariant (sym c.common-divisor.ensures ∙ c.if-divisor-eq1.true)))

pub returns-clause-some : goal.returns-clause-some
returns-clause-some c =
    let none : c.loop-i.i ≡ 0 = omega arith in
    let all : c.loop-i.divisor ≡ side_divisor c.args.tiling.now = rw (none, c.squares-squares.ensures.value) at c.loop-i.invariant in
    omega (arith, all, some_divisor c.args.tiling.now c.squares-squares.ensures.kept.tiling)
