use Rattle.std.proofs.Common.{arith, ◌∙◌}
use Rattle.std.proofs.lemmas.Bool.Decides.{nat_tests}
use Rattle.bk_free_search.proofs.Boards.RightLines.{last_at}
use Rattle.bk_free_search.proofs.sides.right_of_last.Goals as goal

pub returns : goal.returns
returns c = c.line_at.ensures 1 ∙ last_at c.args.rights.now c.args.squares.now _
    (let none = c.is_empty.ensures in let no = c.if-is_empty.false in grind (arith, nat_tests))
