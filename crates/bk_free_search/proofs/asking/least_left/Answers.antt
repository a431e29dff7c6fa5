use Rattle.std.proofs.Common.{arith, inl, inr}
use Rattle.bk_free_search.proofs.asking.least_left.Goals as goal

pub returns-then-most-moves : goal.returns-then-most-moves
returns-then-most-moves c left less few = inl (omega (arith, c.if-most-moves.true, c.max-most.ensures))

pub returns : goal.returns
returns c left less few = inr (omega (arith, less, c.max-most.ensures))
