use Rattle.std.proofs.Common.{arith}
use Rattle.bk_free_search.proofs.Boards.LinesBeside.{all_gathered, gathered_more}
use Rattle.bk_free_search.proofs.node_lines.lines_beside.Goals as goal

pub squares-init : goal.squares-init
squares-init c = record { only = λ line has. absurd (c.no_line-lines.ensures line has); all = λ line b low under. absurd (omega (arith, under)) }

pub with_sides-lines-requires-clause-least : goal.with_sides-lines-requires-clause-least
with_sides-lines-requires-clause-least c = (c.requires.at_left c.squares.square-index c.squares-test.true).0

pub with_sides-lines-requires-clause-at_left : goal.with_sides-lines-requires-clause-at_left
with_sides-lines-requires-clause-at_left c = (c.requires.at_left c.squares.square-index c.squares-test.true).1

pub with_sides-lines-requires-clause-at_right : goal.with_sides-lines-requires-clause-at_right
with_sides-lines-requires-clause-at_right c = (c.requires.at_right c.squares.square-index c.squares-test.true).1

pub squares-preserved : goal.squares-preserved
squares-preserved c = gathered_more c.args.lefts.now c.args.rights.now c.args.squares.now c.squares.square-index _ c.squares.lines
    c.with_sides-lines.result c.squares.invariant c.squares-test.true
    c.with_sides-lines.ensures.only c.with_sides-lines.ensures.all c.with_sides-lines.ensures.kept

pub returns-clause-only : goal.returns-clause-only
returns-clause-only c = c.squares.invariant.only

pub returns-clause-all : goal.returns-clause-all
returns-clause-all c = all_gathered c.args.lefts.now c.args.rights.now c.args.squares.now c.squares.square-index c.squares.lines c.squares.invariant
    (omega (arith, c.squares-test.false))
