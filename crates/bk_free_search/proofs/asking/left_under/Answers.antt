use Rattle.std.proofs.Common.{arith, ◌-◌}
use Rattle.bk_free_search.proofs.Asks.AskedNext.{asked_on_line, asked_under}
use Rattle.bk_free_search.proofs.asking.left_under.Goals as goal

pub returns-then-is_left_on_line : goal.returns-then-is_left_on_line
returns-then-is_left_on_line c = asked_on_line c.args.board.now (c.args.valley.now.place - 1)
    (omega (arith, c.requires.some, c.requires.valley.stands.place_is)) c.args.passed c.past_one-behind.result c.requires.few
    c.requires.counted c.past_one-behind.ensures.few c.has_mark.result c.in_front_of_mark.result c.past_one-behind.ensures.passed
    (λ e. c.requires.marks (c.args.valley.now.place - 1) (c.has_mark.ensures e)) c.in_front_of_mark.ensures.passed c.in_front_of_mark.ensures.few
    (c.is_left_on_line.ensures c.if-is_left_on_line.true)

pub returns : goal.returns
returns c = asked_under c.args.board.now (c.args.valley.now.place - 1) (omega (arith, c.requires.some, c.requires.valley.stands.place_is))
    c.args.passed c.past_one-behind.result c.requires.few
    c.requires.counted c.past_one-behind.ensures.few c.has_mark.result c.past_one-behind.ensures.passed (λ e. c.requires.marks (c.args.valley.now.place - 1)
    (c.has_mark.ensures e))
