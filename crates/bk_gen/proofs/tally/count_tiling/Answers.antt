use Rattle.std.proofs.Common.{rules}
use Rattle.bk_gen.proofs.tally.count_tiling.Goals as goal

pub returns-clause-perfect : goal.returns-clause-perfect
returns-clause-perfect c = search rules

pub returns-clause-squares : goal.returns-clause-squares
returns-clause-squares c = search rules

pub returns-clause-simple : goal.returns-clause-simple
returns-clause-simple c = search rules
