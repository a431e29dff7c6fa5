use Rattle.std.proofs.Common.{arith, inl, inr, subst}
use Rattle.bk_pair.proofs.SideLoops.{NoneSoFar, none_found, none_so_far_with_one_square_more, size_found, step_found}
use Rattle.bk_pair.proofs.kept.stands_apart.Goals as goal
use Rattle.bk_pair.proofs.kept.stands_apart.Goals.{else-i-gt0-via-else-i-gt0, else-i-gt0-via-then-i-gt0+else-squares-i}

pub returns-then-side-width : goal.returns-then-side-width
returns-then-side-width c =
    size_found c.args.width c.args.height c.args.squares.now c.loop-i.i (omega (arith, c.loop-i-test.true))
    (elim c.then-side-width.either [ inl e ↦ inl e | inr e ↦ inr e.1 ])

pub returns-then-squares-i : goal.returns-then-squares-i
returns-then-squares-i c =
    step_found c.args.width c.args.height c.args.squares.now c.loop-i.i (omega (arith, c.if-i-gt0.true)) (omega (arith, c.loop-i-test.true))
    c.if-squares-i.true

pub loop-i-preserved : goal.loop-i-preserved
loop-i-preserved c =
    none_so_far_with_one_square_more c.args.width c.args.height c.args.squares.now c.loop-i.i c.loop-i.invariant c.if-side-width.false c.if-side-height.false
    (elim c.else-i-gt0.branch [
      | else-i-gt0-via-then-i-gt0+else-squares-i w ↦ λ _. w.if-squares-i.false
      | else-i-gt0-via-else-i-gt0 w ↦ λ some. absurd (omega (arith, some, w.if-i-gt0.false))
    ])

pub returns : goal.returns
returns c =
    none_found c.args.width c.args.height c.args.squares.now c.requires
    (subst (NoneSoFar c.args.width c.args.height c.args.squares.now) (omega (arith, c.loop-i-test.false)) c.loop-i.invariant)
