use Rattle.std.proofs.Common.{arith}
use Rattle.bk_tiling.proofs.Refusing.{first_overlap_from, rows_more, shares_no_cell-to_end}
use Rattle.bk_tiling.proofs.checks.first_overlap.Goals as goal

pub loop-i-preserved : goal.loop-i-preserved
loop-i-preserved c = rows_more c.args.squares.now c.loop-i.i c.loop-i.invariant c.in_default.ensures.none

pub returns-in-Some-clause-some : goal.returns-in-Some-clause-some
returns-in-Some-clause-some c = let s = c.in-Some.ensures.some in first_overlap_from c.args.squares.now c.loop-i.i c.in-Some.j c.loop-i.invariant s

pub loop-i-init : goal.loop-i-init
loop-i-init c = λ i j few. absurd (omega (arith, few))

pub first_sharing-requires-clause-place : goal.first_sharing-requires-clause-place
first_sharing-requires-clause-place c = c.loop-i-test.true

pub first_sharing-requires-clause-fit : goal.first_sharing-requires-clause-fit
first_sharing-requires-clause-fit c = c.requires

pub returns-clause-none : goal.returns-clause-none
returns-clause-none c = shares_no_cell-to_end c.args.squares.now c.loop-i.i c.loop-i.invariant c.loop-i-test.false
